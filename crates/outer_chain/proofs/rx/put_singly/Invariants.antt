use Rattle.std.proofs.Common.{◌≡◌, ◌+◌, ◌%◌, ◌<◌, ◌++◌, ℕ, List, length, take}
use Rattle.outer_chain.specs.Receiving.{Holds}
use Rattle.outer_chain.proofs.rx.put_singly.Given as goal

abbrev pub invariant-loop-byte : goal.invariant-loop-byte
invariant-loop-byte l = record {
  size : length l.words ≡ 2448;
  small : l.place < 2448;
  place : l.place % 204 ≡ (l.next + l.byte-index) % 204;
  holds : (before : List ℕ) → Holds l.initial.words l.next before → Holds l.words l.place (before ++ take l.byte-index l.bytes);
}
