use Rattle.std.proofs.Common.{◌≡◌, ◌<◌, ℕ, get_or, length, reverse}
use Rattle.gf256.specs.Field as field
use Rattle.rs204.specs.Polynomials.{value_at}
use Rattle.rs204.proofs.plain.syndromes.Given as goal

abbrev pub invariant-loop-i : goal.invariant-loop-i
invariant-loop-i l = (length l.found ≡ 16) × ((k : ℕ) → k < l.i → get_or l.found k 0 ≡ value_at (field.power k) (reverse l.word))
