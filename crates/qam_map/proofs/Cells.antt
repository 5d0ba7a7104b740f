-- The bits of a label on both axes.
use Rattle.std.proofs.Common.{◌≡◌, ℕ, ◌/◌, Bool, [], ◌∷◌, take, refl, ap, ap₂, ◌∙◌}
use Rattle.std.specs.Prelude.{ℤ}
use Rattle.spec_words.specs.Words.{numbers}
use Rattle.mode_set.specs.StreamTable.{label_bits}
use Rattle.mode_set.specs.declared.modes.Shape.{Shape}
use Rattle.mode_set.specs.declared.modes.Shape.TheVariants.{Qpsk, Qam16, Qam64}
use Rattle.mode_set.specs.declared.modes.Hierarchy.{Hierarchy}
use Rattle.qam_map.specs.Points.{value_of, real_bits, imaginary_bits, map_cell}
use Rattle.qam_map.specs.declared.cell.Cell.{Cell}

real_is : (s : Shape) (y : ℕ → Bool) → take (label_bits s / 2) (y 0 ∷ y 2 ∷ y 4 ∷ []) ≡ real_bits s y
unfolding numbers
real_is Qpsk y = refl
real_is Qam16 y = refl
real_is Qam64 y = refl

imaginary_is : (s : Shape) (y : ℕ → Bool) → take (label_bits s / 2) (y 1 ∷ y 3 ∷ y 5 ∷ []) ≡ imaginary_bits s y
unfolding numbers
imaginary_is Qpsk y = refl
imaginary_is Qam16 y = refl
imaginary_is Qam64 y = refl

three_are : (a b c a' b' c' : Bool) (n : ℕ) → a ≡ a' → b ≡ b' → c ≡ c' → take n (a ∷ b ∷ c ∷ []) ≡ take n (a' ∷ b' ∷ c' ∷ [])
three_are a b c a' b' c' n ea eb ec =
    ap (λ (z : Bool). take n (z ∷ b ∷ c ∷ [])) ea ∙ ap (λ (z : Bool). take n (a' ∷ z ∷ c ∷ [])) eb ∙ ap (λ (z : Bool). take n (a' ∷ b' ∷ z ∷ [])) ec

pub cell_is : (s : Shape) (h : Hierarchy) (y : ℕ → Bool) (b0 b2 b4 b1 b3 b5 : Bool) (re re' im im' : ℤ)
    → b0 ≡ y 0 → b2 ≡ y 2 → b4 ≡ y 4 → b1 ≡ y 1 → b3 ≡ y 3 → b5 ≡ y 5
    → re ≡ re' → re' ≡ value_of s h (take (label_bits s / 2) (b0 ∷ b2 ∷ b4 ∷ []))
    → im ≡ im' → im' ≡ value_of s h (take (label_bits s / 2) (b1 ∷ b3 ∷ b5 ∷ []))
    → ◌≡◌ {A = Cell} (record { re = re; im = im }) (map_cell s h y)
cell_is s h y b0 b2 b4 b1 b3 b5 re re' im im' e0 e2 e4 e1 e3 e5 r r' i i' =
    let real : re ≡ value_of s h (real_bits s y) = r ∙ r' ∙ ap (value_of s h) (three_are _ _ _ _ _ _ (label_bits s / 2) e0 e2 e4 ∙ real_is s y) in
    let imaginary : im ≡ value_of s h (imaginary_bits s y) = i ∙ i' ∙ ap (value_of s h) (three_are _ _ _ _ _ _ (label_bits s / 2) e1 e3 e5 ∙ imaginary_is s y) in
    ap₂ (λ (a b : ℤ). record { re = a; im = b }) real imaginary
