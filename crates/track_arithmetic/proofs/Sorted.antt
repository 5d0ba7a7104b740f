-- The middle one of numbers stands in the middle of them once they are sorted.
use Rattle.std.proofs.Common.{◌≡◌, ℕ, zero, suc, ◌+◌, ◌-◌, ◌/◌, ◌<◌, ◌≤◌, List, [], ◌∷◌, length, get_or, Bool, true, false, nat_lt, nat_le, ap, ◌∙◌, sym, refl, subst, arith, cond, min, inl, inr}
use Rattle.std.specs.List.{count_by, filter}
use Rattle.std.specs.List.Sorted.{IsPermutation, IsSorted}
use Rattle.std.specs.Prelude.{Contains}
use Rattle.std.specs.Ordering.{nat_cmp}
use Rattle.std.proofs.lemmas.List.Sorted.{IsNonDecreasingBy-from_sort, sum_by-IsPermutation, Contains-permutation, IsPermutation-sym}
use Rattle.std.proofs.lemmas.Bool.Decides.{nat_tests}
use Rattle.std.proofs.lemmas.Bool.{cases_lt}
use Rattle.std.proofs.lemmas.List.Sums.{sum_by-cons}
use Rattle.std.proofs.lemmas.List.{get_or_default}
use Rattle.spec_words.specs.Words.{least, rounded_up}
use Rattle.track_arithmetic.specs.Middle.{at_most, middle_of}

count_cons : (p : ℕ → Bool) (y : ℕ) (ys : List ℕ) → count_by p (y ∷ ys) ≡ cond (p y) 1 0 + count_by p ys
count_cons p y ys = sum_by-cons (λ x. cond (p x) 1 0) y ys

at_most_one : (b : Bool) (n m : ℕ) → n ≤ m → cond b 1 0 + n ≤ suc m
at_most_one true n m h = omega (arith, h)
at_most_one false n m h = omega (arith, h)

-- if none passes from j on, at most j pass
few : (p : ℕ → Bool) (ys : List ℕ) (j : ℕ) → ((i : ℕ) → j ≤ i → i < length ys → p (get_or ys i 0) ≡ false) → count_by p ys ≤ j
few p [] j h = omega arith
few p (y ∷ ys) zero h =
    let e : p y ≡ false = h 0 (omega arith) (omega arith) in
    let r = few p ys zero (λ i a b. h (suc i) (omega arith) (omega (arith, b))) in
    rw (count_cons p y ys, e) (omega (arith, r))
few p (y ∷ ys) (suc j) h = let r = few p ys j (λ i a b. h (suc i) (omega (arith, a)) (omega (arith, b))) in rw (count_cons p y ys) (at_most_one (p y) _ j r)

-- if all pass before j, at least j pass
many : (p : ℕ → Bool) (ys : List ℕ) (j : ℕ) → j ≤ length ys → ((i : ℕ) → i < j → p (get_or ys i 0) ≡ true) → j ≤ count_by p ys
many p ys zero s h = omega arith
many p [] (suc j) s h = omega (arith, s)
many p (y ∷ ys) (suc j) s h =
    let e : p y ≡ true = h 0 (omega arith) in
    let r = many p ys j (omega (arith, s)) (λ i a. h (suc i) (omega (arith, a))) in
    rw (count_cons p y ys, e) (omega (arith, r))

-- a test passes as often in another order
moved_count : (p : ℕ → Bool) (xs ys : List ℕ) → IsPermutation xs ys → count_by p ys ≡ count_by p xs
moved_count p xs ys moved = sum_by-IsPermutation (λ x. cond (p x) 1 0) xs ys moved

-- ---- the least of those that pass
one_of_two : (x y : ℕ) (zs : List ℕ) → least (x ∷ y ∷ zs) ≡ min x (least (y ∷ zs))
one_of_two x y zs = refl

-- a lower bound of the items that is one of them is the least
record IsLeast (xs : List ℕ) (x : ℕ) : Type 0 where
  pub among : Contains xs x
  pub lower : (i : ℕ) → i < length xs → x ≤ get_or xs i 0

lower_least : (xs : List ℕ) (x : ℕ) → 0 < length xs → ((i : ℕ) → i < length xs → x ≤ get_or xs i 0) → x ≤ least xs
lower_least [] x some h = absurd (omega (arith, some))
lower_least (y ∷ []) x some h = h 0 (omega arith)
lower_least (y ∷ z ∷ zs) x some h =
    let first : x ≤ y = h 0 (omega arith) in
    let others = lower_least (z ∷ zs) x (omega arith) (λ i a. h (suc i) (omega (arith, a))) in
    omega (arith, first, others)

least_lower : (xs : List ℕ) (i : ℕ) → i < length xs → least xs ≤ get_or xs i 0
least_lower [] i h = absurd (omega (arith, h))
least_lower (y ∷ []) zero h = omega arith
least_lower (y ∷ []) (suc i) h = absurd (omega (arith, h))
least_lower (y ∷ z ∷ zs) zero h = omega arith
least_lower (y ∷ z ∷ zs) (suc i) h = let r = least_lower (z ∷ zs) i (omega (arith, h)) in omega (arith, r)

-- the items that pass
passing_lower : (p : ℕ → Bool) (xs : List ℕ) (x : ℕ) → ((i : ℕ) → i < length xs → p (get_or xs i 0) ≡ true → x ≤ get_or xs i 0) → (i : ℕ) → i < length (filter p xs) → x ≤ get_or (filter p xs) i 0
passing_lower p [] x h i k = absurd (omega (arith, k))
passing_lower p (y ∷ ys) x h i k = by (p y) refl (passing_lower p ys x (λ j a b. h (suc j) (omega (arith, a)) b)) i k
  where
    by : (b : Bool) → p y ≡ b → ((j : ℕ) → j < length (filter p ys) → x ≤ get_or (filter p ys) j 0) → (i : ℕ) → i < length (cond b (y ∷ filter p ys) (filter p ys)) → x ≤ get_or (cond b (y ∷ filter p ys) (filter p ys)) i 0
    by true e rest zero k = h 0 (omega arith) e
    by true e rest (suc i) k = rest i (omega (arith, k))
    by false e rest i k = rest i k

record HasItem (xs : List ℕ) (x : ℕ) : Type 0 where
  pub place : ℕ
  pub within : place < length xs
  pub is : get_or xs place 0 ≡ x

passing_item : (p : ℕ → Bool) (xs : List ℕ) (i : ℕ) → i < length xs → p (get_or xs i 0) ≡ true → HasItem (filter p xs) (get_or xs i 0)
passing_item p [] i h e = absurd (omega (arith, h))
passing_item p (y ∷ ys) zero h e = by (p y) e
  where
    by : (b : Bool) → b ≡ true → HasItem (cond b (y ∷ filter p ys) (filter p ys)) y
    by true e = record { place = 0; within = omega arith; is = refl }
    by false e = absurd (grind (arith, e))
passing_item p (y ∷ ys) (suc i) h e = by (p y) (passing_item p ys i (omega (arith, h)) e)
  where
    by : (b : Bool) → HasItem (filter p ys) (get_or ys i 0) → HasItem (cond b (y ∷ filter p ys) (filter p ys)) (get_or ys i 0)
    by true r = record { place = suc r.place; within = omega (arith, r.within); is = r.is }
    by false r = r

least_passing : (p : ℕ → Bool) (xs : List ℕ) (i : ℕ) → i < length xs → p (get_or xs i 0) ≡ true → ((k : ℕ) → k < length xs → p (get_or xs k 0) ≡ true → get_or xs i 0 ≤ get_or xs k 0) → get_or xs i 0 ≡ least (filter p xs)
least_passing p xs i h e lower =
    let x = get_or xs i 0 in
    let item = passing_item p xs i h e in
    let above = lower_least (filter p xs) x (omega (arith, item.within)) (passing_lower p xs x lower) in
    let below = least_lower (filter p xs) item.place item.within in
    omega (arith, above, below, item.is)

-- ---- the middle place of the sorted numbers
item_of : (xs : List ℕ) (x : ℕ) → Contains xs x → HasItem xs x
item_of xs x (k, h, e) = record { place = k; within = h; is = sym (get_or_default xs k x 0 h) ∙ e }

one : (z x y : ℕ) → z < x → cond (nat_le y z) 1 0 ≤ cond (nat_lt y x) 1 0
one z x y h = elim (cases_lt z y) [
  | inl lt ↦ grind (arith, nat_tests, lt)
  | inr le ↦ grind (arith, nat_tests, le, h)
]

fewer : (z x : ℕ) (xs : List ℕ) → z < x → at_most z xs ≤ count_by (λ y. nat_lt y x) xs
fewer z x [] h = omega arith
fewer z x (y ∷ ys) h = rw (count_cons (λ y. nat_le y z) y ys, count_cons (λ y. nat_lt y x) y ys) (omega (arith, one z x y h, fewer z x ys h))

-- what half of the numbers do not exceed is not less than what fewer than half are below
not_less : (z x half : ℕ) (xs : List ℕ) → count_by (λ y. nat_lt y x) xs < half → nat_le half (at_most z xs) ≡ true → x ≤ z
not_less z x half xs few e = elim (cases_lt z x) [
  | inl lt ↦ let h : half ≤ at_most z xs = grind (arith, nat_tests, e) in absurd (omega (arith, few, h, fewer z x xs lt))
  | inr ge ↦ ge
]

pub middle : (xs ys : List ℕ) (x : ℕ) → IsPermutation xs ys → IsSorted nat_cmp ys → 1 ≤ length xs → length ys ≡ length xs → x ≡ get_or ys ((length ys - 1) / 2) 0 → x ≡ middle_of xs
unfolding middle_of
middle xs ys x moved sorted some long is =
    let j = (length ys - 1) / 2 in
    let half = rounded_up (length xs) 2 in
    let up = IsNonDecreasingBy-from_sort (λ (y : ℕ). y) ys sorted in
    let within : j < length ys = omega (arith, some, long) in
    let next : half ≡ j + 1 = omega (arith, some, long) in
    let low : count_by (λ y. nat_lt y x) ys ≤ j = few (λ y. nat_lt y x) ys j (λ i a b. let r = up j i 0 a b in grind (arith, nat_tests, is, r)) in
    let high : j + 1 ≤ at_most x ys = many (λ y. nat_le y x) ys (j + 1) (omega (arith, within)) (λ i a. let r = up i j 0 (omega (arith, a)) within in grind (arith, nat_tests, is, r)) in
    let low_same = moved_count (λ y. nat_lt y x) xs ys moved in
    let high_same = moved_count (λ y. nat_le y x) xs ys moved in
    let item = item_of xs x (Contains-permutation ys xs x (IsPermutation-sym xs ys moved) (j, within, get_or_default ys j x 0 within ∙ sym is)) in
    let passes : nat_le half (at_most (get_or xs item.place 0) xs) ≡ true = subst (λ (z : ℕ). nat_le half (at_most z xs) ≡ true) (sym item.is) (grind (arith, nat_tests, next, high, high_same)) in
    let most : count_by (λ (y : ℕ). nat_lt y x) xs < half = omega (arith, low, low_same, next) in
    let lower : (k : ℕ) → k < length xs → nat_le half (at_most (get_or xs k 0) xs) ≡ true → get_or xs item.place 0 ≤ get_or xs k 0 = λ k h e. subst (λ (z : ℕ). z ≤ get_or xs k 0) (sym item.is) (not_less (get_or xs k 0) x half xs most e) in
    sym item.is ∙ least_passing (λ (z : ℕ). nat_le half (at_most z xs)) xs item.place item.within passes lower
