use Rattle.std.proofs.Common.{◌≡◌, ◌-◌, length, take}
use Rattle.survivor_ring.proofs.Eights.{Tailed}
use Rattle.survivor_ring.proofs.ring.rejoin.Given as goal

abbrev pub invariant-loop-k : goal.invariant-loop-k
invariant-loop-k l = record {
  size : length l.bytes ≡ length l.fn.bytes;
  front : take (length l.fn.bytes - l.k) l.bytes ≡ take (length l.fn.bytes - l.k) l.fn.bytes;
  tail : Tailed l.words l.fn.state l.bytes (length l.fn.bytes - l.k) l.now;
}
