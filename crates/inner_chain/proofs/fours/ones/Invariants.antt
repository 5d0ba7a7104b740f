use Rattle.std.proofs.Common.{◌≡◌, ◌+◌, ◌<◌, ℕ, length}
use Rattle.std.specs.Prelude.{slice_index}
use mir.Val.{bool_byte}
use Rattle.spec_words.specs.Bits.{bit}
use Rattle.inner_chain.proofs.fours.ones.Given as goal

abbrev pub invariant-loop-k : goal.invariant-loop-k
invariant-loop-k l = (length l.ones ≡ 32) × ((j : ℕ) → j < l.k → slice_index l.ones j ≡ bool_byte (bit l.bits (l.first + j)))
