-- The integer nearest to a quotient.
use Rattle.std.proofs.Common.{◌≡◌, ℕ, ◌*◌, ◌<◌, ap, refl, sym, ◌∙◌, arith}
use Rattle.std.specs.Prelude.{ℤ, pos, negsuc, ◌+ℤ◌, ◌-ℤ◌, ◌*ℤ◌, ◌≤ℤ◌, ◌<ℤ◌}
use Rattle.std.specs.Int.{saturate_signed, w16}
use Rattle.std.specs.Int.RustNames.{FitsSigned}
use Rattle.std.proofs.lemmas.Int.{ints, clamps}
use borrow.Author.Differences.{product_is}
use Rattle.spec_words.proofs.Floors.{IsFloor, floor_is, same_floor}
use Rattle.cell_equal.specs.Equal.{nearest, value_near, IsNearest}

pub nearest_is : (x : ℤ) (n : ℕ) → 0 < n → IsNearest x n (nearest x n)
nearest_is x n some =
    let f = floor_is (pos 2 *ℤ x +ℤ pos n) (2 * n) (omega (arith, some)) in
    let p = product_is (pos (2 * n)) (nearest x n) in
    record { above = omega (arith, ints, p, f.low); below = omega (arith, ints, p, f.high) }

pub same_rest : {r d e g h t u : ℤ} → r ≡ d -ℤ g *ℤ t → d ≡ e → g ≡ h → t ≡ u → r ≡ e -ℤ h *ℤ u
same_rest {r} {d} {e} {g} {h} {t} {u} is a b c = is ∙ ap (λ (z : ℤ). z -ℤ g *ℤ t) a ∙ ap (λ (z : ℤ). e -ℤ z *ℤ t) b ∙ ap (λ (z : ℤ). e -ℤ h *ℤ z) c

-- a guess with a remainder below the divisor is the nearest
pub tested : (x rest guess : ℤ) (n : ℕ) → 0 < n → rest ≡ (pos 2 *ℤ x +ℤ pos n) -ℤ guess *ℤ pos (2 * n) → pos 0 ≤ℤ rest → rest <ℤ pos (2 * n) → guess ≡ nearest x n
tested x rest guess n some is low high =
    let p = product_is guess (pos (2 * n)) in
    let g : IsFloor (pos 2 *ℤ x +ℤ pos n) guess (2 * n) = record { low = omega (arith, ints, p, is, low); high = omega (arith, ints, p, is, high) } in
    same_floor g (floor_is (pos 2 *ℤ x +ℤ pos n) (2 * n) (omega (arith, some)))

-- limiting does not change a value of a cell
stays : (z : ℤ) → FitsSigned w16 z → z ≡ saturate_signed w16 z
stays (pos n) f = omega (arith, ints, clamps, f)
stays (negsuc n) f = omega (arith, ints, clamps, f)

pub guessed : (x guess : ℤ) (n : ℕ) → FitsSigned w16 guess → guess ≡ nearest x n → guess ≡ value_near x n
guessed x guess n f e = stays guess f ∙ ap (saturate_signed w16) e

-- a multiple of the divisor
pub whole_value : (x guess : ℤ) (n : ℕ) → FitsSigned w16 guess → 0 < n → x ≡ guess *ℤ pos n → value_near x n ≡ guess
whole_value x guess n fits some e =
    let p = product_is guess (pos n) in
    let q = product_is guess (pos (2 * n)) in
    let rest = (pos 2 *ℤ x +ℤ pos n) -ℤ guess *ℤ pos (2 * n) in
    let is : rest ≡ pos n = omega (arith, ints, p, q, e) in
    sym (guessed x guess n fits (tested x rest guess n some refl (omega (arith, ints, is)) (omega (arith, ints, is, some))))
