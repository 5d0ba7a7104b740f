use Rattle.std.proofs.Common.{◌≡◌, ◌+◌, ◌*◌, ◌%◌, ◌++◌, ℕ, List, length, take}
use Rattle.outer_chain.specs.Receiving.{Holds}
use Rattle.outer_chain.proofs.rx.put_falling.Given as goal

abbrev pub invariant-loop-byte : goal.invariant-loop-byte
invariant-loop-byte l = record {
  size : length l.words ≡ 2448;
  holds : (before : List ℕ) → Holds l.initial.words l.next before → Holds l.words ((l.next + 2245 * l.byte) % 2448) (before ++ take l.byte l.bytes);
}
