use Rattle.std.proofs.Common.{◌≡◌, ◌≤◌, ◌*◌, ◌++◌, ℕ, List, take, length}
use Rattle.mode_set.specs.declared.modes.Rate.{Rate}
use Rattle.cmd_packets.specs.InnerBytes.{inner_bytes}
use Rattle.cmd_packets.specs.Inner.{IsAfter}
use Rattle.cmd_packets.proofs.inner_coder.code_word.Given as goal

-- the bytes of the word before this index were coded
abbrev pub invariant-loop-byte : goal.invariant-loop-byte
invariant-loop-byte l = record {
  few : length l.piece.items ≤ 2 * l.byte-index;
  after : (r : Rate) (bytes : List ℕ) → IsAfter l.initial.inner r bytes → IsAfter l.inner r (bytes ++ take l.byte-index l.word);
  gives : (r : Rate) (bytes : List ℕ) → IsAfter l.initial.inner r bytes → inner_bytes r (bytes ++ take l.byte-index l.word) ≡ inner_bytes r bytes ++ l.piece.items;
}
