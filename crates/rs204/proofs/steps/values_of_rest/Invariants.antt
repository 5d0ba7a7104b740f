use Rattle.std.proofs.Common.{◌≡◌, ◌<◌, ℕ, get_or, reverse, take}
use Rattle.gf256.specs.Field as field
use Rattle.rs204.specs.Polynomials.{value_at}
use Rattle.rs204.proofs.steps.values_of_rest.Given as goal

abbrev pub invariant-loop-byte : goal.invariant-loop-byte
invariant-loop-byte l = (i : ℕ) → i < 16 → get_or l.values i 0 ≡ value_at (field.power i) (reverse (take l.byte-index l.rest))
