use Rattle.std.proofs.Common.{◌≡◌, ◌+◌, ◌*◌, ◌%◌, ◌++◌, ℕ, List, length, take}
use Rattle.outer_chain.specs.Receiving.{Holds}
use Rattle.outer_chain.proofs.rx.put_rounds.Given as goal

abbrev pub invariant-loop-round : goal.invariant-loop-round
invariant-loop-round g l = record {
  size : length l.words ≡ 2448;
  holds : (before : List ℕ) → Holds l.initial.words l.next before → Holds l.words ((l.next + 12 * l.round) % 2448) (before ++ take (12 * l.round) l.bytes);
}
