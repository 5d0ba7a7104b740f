use Rattle.std.proofs.Common.{◌≡◌, ◌+◌, ◌++◌, take}
use Rattle.std.specs.Prelude.{vec_len, vec_capacity}
use Rattle.rescue_words.proofs.recovery.append.Given as goal

abbrev pub invariant-loop-byte : goal.invariant-loop-byte
invariant-loop-byte l = (l.to.items ≡ l.initial.to.items ++ take l.byte-index l.bytes) × (vec_len l.to ≡ vec_len l.initial.to + l.byte-index) × (vec_capacity l.to ≡ vec_capacity l.initial.to)
