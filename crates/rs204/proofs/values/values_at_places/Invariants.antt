use Rattle.std.proofs.Common.{◌≡◌, ◌*◌, ◌<◌, ℕ, get_or, length}
use Rattle.gf256.specs.Field as field
use Rattle.rs204.specs.Polynomials.{value_at}
use Rattle.rs204.proofs.values.values_at_places.Given as goal

abbrev pub invariant-loop-block : goal.invariant-loop-block
invariant-loop-block l =
    (length l.values ≡ 204) × (length l.terms ≡ 17)
    × ((k : ℕ) → k < length l.polynomial → get_or l.terms k 0 ≡ field.mul (get_or l.polynomial k 0) (field.power (12 * l.block * k)))
    × ((k : ℕ) → k < 12 * l.block → get_or l.values k 0 ≡ value_at (field.power k) l.polynomial)
