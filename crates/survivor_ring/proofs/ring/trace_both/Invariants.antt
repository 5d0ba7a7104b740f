use Rattle.std.proofs.Common.{◌≡◌, ◌-◌, length}
use Rattle.survivor_ring.proofs.Eights.{Tailed}
use Rattle.survivor_ring.proofs.ring.trace_both.Given as goal

abbrev pub invariant-loop-k : goal.invariant-loop-k
invariant-loop-k l = record {
  first_size : length l.first ≡ length l.fn.first;
  last_size : length l.last ≡ length l.fn.last;
  first_tail : Tailed l.older 0 l.first (length l.fn.first - l.k) l.guess;
  last_tail : Tailed l.newer l.fn.state l.last (length l.fn.first - l.k) l.now;
}
