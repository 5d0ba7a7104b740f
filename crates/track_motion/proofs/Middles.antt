-- The middle one of the lesser changes in the file.
use Rattle.std.proofs.Common.{◌≡◌, ℕ, zero, suc, ◌+◌, ◌-◌, ◌<◌, ◌≤◌, Bool, true, false, List, [], ◌∷◌, length, take, drop, get_or, map, cond, refl, ap, sym, ◌∙◌, subst, arith, min}
use Rattle.std.specs.Prelude.{filter}
use Rattle.spec_words.specs.Words.{least}
use Rattle.std.specs.List.{range_with_len}
use Rattle.std.proofs.lemmas.Grind.{same_number_lists}
use Rattle.std.proofs.lemmas.List.{get_or-take, get_or-drop, get_or-map, length-map, length-take-le}
use Rattle.std.proofs.lemmas.List.FromFn.{length-range_with_len, get_or-range_with_len}
use Rattle.tracking.specs.BadSymbols.{lesser_change, middle}
use Rattle.tracking.specs.Comb.{Comb, window, window_end}
use Rattle.tracking.specs.InTime.{symbol_at}
use Rattle.track_arithmetic.specs.Middle.{middle_of}
use Rattle.track_motion.specs.Places.{first_place, end_place, HasLesser}

-- the lesser changes from a place on
pub part_is : (c : Comb) (m : ℕ) (lesser part : List ℕ) → m < c.count → HasLesser c m lesser → length part ≡ end_place c.count m - first_place m
    → ((i : ℕ) → i < length part → get_or part i 0 ≡ get_or lesser (first_place m + i) 0) → part ≡ map (lesser_change c m) (window c m)
unfolding window
part_is c m lesser part some h long is =
    let k = window_end c m - (m - 7) in
    let size = length-range_with_len (m - 7) k in
    let w = range_with_len (m - 7) k in
    let number : length w ≡ length part = omega (arith, size, long, some) in
    same_number_lists part (map (lesser_change c m) w) (omega (arith, number, length-map w (lesser_change c m))) (λ i lt.
    let p = first_place m + i in
    let at = get_or-range_with_len (m - 7) k i 0 (omega (arith, lt, number, size)) in
    let t : symbol_at m p ≡ get_or w i 0 = omega (arith, at) in
    is i lt ∙ h.is p (omega arith) (omega (arith, lt, long)) ∙ ap (lesser_change c m) t ∙ sym (get_or-map (lesser_change c m) w i 0 0 (omega (arith, lt, number))))

pub middle_is : (c : Comb) (m : ℕ) (part : List ℕ) → part ≡ map (lesser_change c m) (window c m) → middle_of part ≡ middle c m
unfolding middle
middle_is c m part e = ap middle_of e

-- an item of a part of a list
pub of_part : (all : List ℕ) (o n i : ℕ) → i < n → get_or (take n (drop o all)) i 0 ≡ get_or all (o + i) 0
of_part all o n i h = get_or-take n (drop o all) i 0 h ∙ get_or-drop o all i 0

-- ---- the middle one is not above all
abbrev AllMost : ℕ → List ℕ → Type 0
AllMost n xs = (i : ℕ) → i < length xs → get_or xs i 0 ≤ n

least_most : (n : ℕ) (xs : List ℕ) → AllMost n xs → least xs ≤ n
least_most n [] h = omega arith
least_most n (x ∷ []) h = h 0 (omega arith)
least_most n (x ∷ y ∷ xs) h = let first = h 0 (omega arith) in omega (arith, first)

filter_most : (n : ℕ) (p : ℕ → Bool) (xs : List ℕ) → AllMost n xs → AllMost n (filter p xs)
filter_most n p [] h = h
filter_most n p (x ∷ xs) h = by (p x) (filter_most n p xs (λ i lt. h (suc i) (omega (arith, lt))))
  where
    by : (b : Bool) → AllMost n (filter p xs) → AllMost n (cond b (x ∷ filter p xs) (filter p xs))
    by true r zero lt = h 0 (omega arith)
    by true r (suc i) lt = r i (omega (arith, lt))
    by false r i lt = r i lt

pub middle_most : (n : ℕ) (xs : List ℕ) → ((i : ℕ) → i < length xs → get_or xs i 0 ≤ n) → middle_of xs ≤ n
unfolding middle_of
middle_most n xs h = least_most n (filter _ xs) (filter_most n _ xs h)
