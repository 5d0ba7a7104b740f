use Rattle.std.proofs.Common.{◌≡◌, ◌+◌, ◌-◌, ◌<◌, List, Bool, length, take, drop}
use Rattle.survivor_ring.specs.Ring.{IsTraced, root, trace}
use Rattle.survivor_ring.proofs.ring.trace_steps.Given as goal

abbrev pub invariant-loop-k : goal.invariant-loop-k
invariant-loop-k l = record {
  size : length l.bytes ≡ 257;
  now_is : l.now ≡ root (drop (length l.words - l.k) l.words) l.fn.state;
  now_small : l.now < 64;
  last_small : l.last < 256;
  traced : (bits : List Bool) → take (length l.words) (drop l.place bits) ≡ trace l.words l.fn.state → IsTraced bits (l.place + length l.words) l.fn.byte l.fn.bytes → IsTraced bits (l.place + (length l.words - l.k)) l.last l.bytes;
}
