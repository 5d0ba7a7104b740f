-- The tables of the code, entry by entry.
use Rattle.std.proofs.Common.{◌≡◌, ℕ, zero, suc, ◌+◌, ◌%◌, ◌^◌, ◌<◌, ◌≤◌, List, [], ◌∷◌, length, get_or, map, Bool, true, false, nat_le, refl, ap, sym, ◌∙◌, subst, arith}
use Rattle.std.specs.Prelude.{ℤ, pos, ◌&&◌, nat_abs}
use Rattle.std.specs.List.{list_all}
use Rattle.std.proofs.lemmas.Bool.Decides.{nat_tests}
use Rattle.std.proofs.lemmas.List.{get_or-map, length-map}
use Rattle.spec_words.specs.Words.{numbers}
use Rattle.spec_words.proofs.Counting.{length-numbers, get_or-numbers}
use Rattle.mode_set.specs.declared.modes.Guard.{Guard}
use Rattle.mode_set.specs.declared.modes.Guard.TheVariants.{G1of32, G1of16, G1of8, G1of4}
use Rattle.tracking.specs.Coefficients.{frequency_rows}
use Rattle.tracking.specs.InFrequency.{frequency_row}
use Rattle.track_arithmetic.specs.Numbers.{cosine}
use Rattle.track_cells.specs.Sizes.{size_to}
use Rattle.track_cells.specs.declared.coefficients.TheConstants.{GUARD_1_OF_32, GUARD_1_OF_16, GUARD_1_OF_8, GUARD_1_OF_4}

-- an entry of a table over the numbers below n
pub entry : {X : Type 0} (f : ℕ → X) (n k : ℕ) (d : X) → k < n → get_or (map f (numbers n)) k d ≡ f k
entry f n k d h = get_or-map f (numbers n) k 0 d (omega (arith, h, length-numbers n)) ∙ ap f (get_or-numbers n k h)

passes : {X : Type 0} (p : X → Bool) (xs : List X) (i : ℕ) (d : X) → list_all p xs ≡ true → i < length xs → p (get_or xs i d) ≡ true
passes {X} p [] i d e h = absurd (omega (arith, h))
passes {X} p (x ∷ xs) i d e h = by (p x) refl (passes p xs) i e h
  where
    by : (b : Bool) → p x ≡ b → ((k : ℕ) (c : X) → list_all p xs ≡ true → k < length xs → p (get_or xs k c) ≡ true) → (i : ℕ) → (b && list_all p xs) ≡ true → i < length (x ∷ xs) → p (get_or (x ∷ xs) i d) ≡ true
    by true f r zero e h = f
    by true f r (suc i) e h = r i d e (omega (arith, h))
    by false f r i e h = absurd (grind (arith, e))

rows_are_small : (g : Guard) → list_all (λ (r : List ℤ). nat_le (size_to 12 r) 58154) (map (frequency_row g) (numbers 34)) ≡ true
unfolding frequency_row frequency_rows numbers size_to
rows_are_small G1of32 = refl
rows_are_small G1of16 = refl
rows_are_small G1of8 = refl
rows_are_small G1of4 = refl

-- the sizes of a row
pub row_is_small : (g : Guard) (t : ℕ) → t < 34 → size_to 12 (frequency_row g t) ≤ 58154
row_is_small g t h =
    let rows = map (frequency_row g) (numbers 34) in
    let long : length rows ≡ 34 = length-map (numbers 34) (frequency_row g) ∙ length-numbers 34 in
    let small = passes (λ (r : List ℤ). nat_le (size_to 12 r) 58154) rows t [] (rows_are_small g) (omega (arith, long, h)) in
    let at : get_or rows t [] ≡ frequency_row g t = entry (frequency_row g) 34 t [] h in
    let le : nat_le (size_to 12 (frequency_row g t)) 58154 ≡ true = subst (λ (z : List ℤ). nat_le (size_to 12 z) 58154 ≡ true) at small in
    grind (arith, nat_tests, le)

cosines_are_small : list_all (λ (z : ℤ). nat_le (nat_abs z) 16384) (map cosine (numbers 64)) ≡ true
unfolding numbers
cosines_are_small = refl

pub cosine_is_small : (i : ℕ) → i < 64 → nat_abs (cosine i) ≤ 2 ^ 14
cosine_is_small i h =
    let all = map cosine (numbers 64) in
    let long : length all ≡ 64 = length-map (numbers 64) cosine ∙ length-numbers 64 in
    let small = passes (λ (z : ℤ). nat_le (nat_abs z) 16384) all i (pos 0) cosines_are_small (omega (arith, long, h)) in
    let le : nat_le (nat_abs (cosine i)) 16384 ≡ true = subst (λ (z : ℤ). nat_le (nat_abs z) 16384 ≡ true) (entry cosine 64 i (pos 0) h) small in
    grind (arith, nat_tests, le)

-- the tables of the code
pub rows_of_32 : GUARD_1_OF_32 ≡ map (frequency_row G1of32) (numbers 34)
unfolding frequency_row frequency_rows numbers
rows_of_32 = refl

pub rows_of_16 : GUARD_1_OF_16 ≡ map (frequency_row G1of16) (numbers 34)
unfolding frequency_row frequency_rows numbers
rows_of_16 = refl

pub rows_of_8 : GUARD_1_OF_8 ≡ map (frequency_row G1of8) (numbers 34)
unfolding frequency_row frequency_rows numbers
rows_of_8 = refl

pub rows_of_4 : GUARD_1_OF_4 ≡ map (frequency_row G1of4) (numbers 34)
unfolding frequency_row frequency_rows numbers
rows_of_4 = refl
