-- Sums of two different elements of a list.
use Rattle.std.proofs.Common.{◌≡◌, ℕ, zero, suc, ◌+◌, ◌-◌, ◌/◌, ◌%◌, ◌^◌, ◌<◌, List, [], ◌∷◌, ◌++◌, map, length, get_or, refl, sym, ap, ◌∙◌, subst, inl, inr, arith, Bool, true, false, not, cond, ◌&&◌}
use Rattle.std.specs.Prelude.{slice_index, bit_or, bit_xor, ◌≢◌, ◌==◌, nat_lt}
use Rattle.std.specs.List.{list_all}
use borrow.Author.Tests.{ltb-true}
use Rattle.std.specs.Int.{bit_at}
use Rattle.std.proofs.Math.ListN.{get_or-append, length-append}
use Rattle.std.proofs.lemmas.Bool.{eq-eqb, and_parts, cases_lt}
use Rattle.std.proofs.lemmas.Nat.Bits.{bit_at_or, bit_at-pow_same, bit_at-lt}
use Rattle.spec_words.specs.Bits.{is_set}

-- whether a number is of class c
abbrev of_class : ℕ → ℕ → Bool
of_class c x = x / 1024 == c

-- the marks including that of x
abbrev marked_with : ℕ → ℕ → ℕ → ℕ
marked_with c x n = cond (of_class c x) (bit_or n (2 ^ (x % 1024))) n

-- each element of class c is marked in a number, as a bit not set before
unfoldable pub marks : ℕ → List ℕ → ℕ → Bool
marks c [] n = true
marks c (x ∷ xs) n = cond (of_class c x) (not (is_set n (x % 1024))) true && marks c xs (marked_with c x n)

-- the same for 16 classes; the number 0 is marked at the start
unfoldable pub all_marks : List ℕ → ℕ → Bool
all_marks xs zero = true
all_marks xs (suc c) = marks c xs (cond (c == 0) 1 0) && all_marks xs c

all_marks-at : (xs : List ℕ) (k c : ℕ) → all_marks xs k ≡ true → c < k → marks c xs (cond (c == 0) 1 0) ≡ true
unfolding all_marks
all_marks-at xs zero c h l = absurd (omega (arith, l))
all_marks-at xs (suc k) c h l =
    let parts = and_parts _ _ h in
    elim (cases_lt c k) [ inl below ↦ all_marks-at xs k c parts.1 below | inr last ↦ let same : k ≡ c = omega arith in subst (λ (z : ℕ). marks z xs (cond (z == 0) 1 0) ≡ true) same parts.0 ]

kept : (n y x : ℕ) → bit_at n x ≡ 1 → bit_at (bit_or n (2 ^ y)) x ≡ 1
kept n y x e = omega (arith, e, bit_at_or n (2 ^ y) x, bit_at-lt (2 ^ y) x)

marked : (n x : ℕ) → bit_at (bit_or n (2 ^ x)) x ≡ 1
marked n x = omega (arith, bit_at_or n (2 ^ x) x, bit_at-pow_same x, bit_at-lt n x)

still : (c y n x : ℕ) → bit_at n x ≡ 1 → bit_at (marked_with c y n) x ≡ 1
still c y n x e = by_case (of_class c y)
  where
    by_case : (b : Bool) → bit_at (cond b (bit_or n (2 ^ (y % 1024))) n) x ≡ 1
    by_case true = kept n (y % 1024) x e
    by_case false = e

unset : (c n y x : ℕ) → x / 1024 ≡ c → bit_at n (x % 1024) ≡ 1 → cond (of_class c y) (not (is_set n (y % 1024))) true ≡ true → y ≢ x
unset c n y x k e f same =
    let class : of_class c y ≡ true = eq-eqb _ _ (ap (λ (z : ℕ). z / 1024) same ∙ k) in
    let set : is_set n (y % 1024) ≡ true = eq-eqb (bit_at n (y % 1024)) 1 (ap (λ (z : ℕ). bit_at n (z % 1024)) same ∙ e) in
    let one : cond true (not (is_set n (y % 1024))) true ≡ true = subst (λ (b : Bool). cond b (not (is_set n (y % 1024))) true ≡ true) class f in
    let both : not true ≡ true = subst (λ (b : Bool). not b ≡ true) set one in
    cc

-- a marked element does not occur again
not_again : (c : ℕ) (xs : List ℕ) (n x : ℕ) → x / 1024 ≡ c → bit_at n (x % 1024) ≡ 1 → marks c xs n ≡ true → (k : ℕ) → k < length xs → slice_index xs k ≢ x
unfolding marks
not_again c [] n x h e m k l = absurd (omega (arith, l))
not_again c (y ∷ ys) n x h e m zero l = unset c n y x h e (and_parts _ _ m).0
not_again c (y ∷ ys) n x h e m (suc k) l = not_again c ys (marked_with c y n) x h (still c y n (x % 1024) e) (and_parts _ _ m).1 k (omega (arith, l))

differ_in : (c : ℕ) (xs : List ℕ) (n : ℕ) → marks c xs n ≡ true → (i j : ℕ) → slice_index xs i / 1024 ≡ c → i < j → j < length xs → slice_index xs j ≢ slice_index xs i
unfolding marks
differ_in c [] n m i j h less l = absurd (omega (arith, l))
differ_in c (y ∷ ys) n m i zero h less l = absurd (omega (arith, less))
differ_in c (y ∷ ys) n m zero (suc j) h less l =
    let class : of_class c y ≡ true = eq-eqb _ _ h in
    let set : bit_at (marked_with c y n) (y % 1024) ≡ 1 = ap (λ (b : Bool). bit_at (cond b (bit_or n (2 ^ (y % 1024))) n) (y % 1024)) class ∙ marked n (y % 1024) in
    not_again c ys (marked_with c y n) y h set (and_parts _ _ m).1 j (omega (arith, l))
differ_in c (y ∷ ys) n m (suc i) (suc j) h less l = differ_in c ys (marked_with c y n) (and_parts _ _ m).1 i j h (omega (arith, less)) (omega (arith, l))

abbrev AreSmall : List ℕ → Type 0
AreSmall xs = (k : ℕ) → k < length xs → slice_index xs k < 16384

differ : (xs : List ℕ) → AreSmall xs → all_marks xs 16 ≡ true → (i j : ℕ) → i < j → j < length xs → slice_index xs j ≢ slice_index xs i
differ xs small m i j less l =
    let low = small i (omega (arith, less, l)) in
    differ_in (slice_index xs i / 1024) xs _ (all_marks-at xs 16 (slice_index xs i / 1024) m (omega (arith, low))) i j refl less l

-- the sums of an element and a later one
unfoldable pub pair_sums : List ℕ → List ℕ
pair_sums [] = []
pair_sums (x ∷ xs) = map (bit_xor x) xs ++ pair_sums xs

-- the index of the sum of elements a and b among them
unfoldable place : List ℕ → ℕ → ℕ → ℕ
place [] a b = 0
place (x ∷ xs) zero b = b - 1
place (x ∷ xs) (suc a) b = length xs + place xs a (b - 1)

length-map : (f : ℕ → ℕ) (xs : List ℕ) → length (map f xs) ≡ length xs
length-map f [] = refl
length-map f (x ∷ xs) = ap suc (length-map f xs)

get_or-map : (f : ℕ → ℕ) (xs : List ℕ) (i : ℕ) → i < length xs → get_or (map f xs) i 0 ≡ f (get_or xs i 0)
get_or-map f [] i l = absurd (omega (arith, l))
get_or-map f (x ∷ xs) zero l = refl
get_or-map f (x ∷ xs) (suc i) l = get_or-map f xs i (omega (arith, l))

behind : (xs ys : List ℕ) (i : ℕ) → get_or (xs ++ ys) (length xs + i) 0 ≡ get_or ys i 0
behind [] ys i = let here : 0 + i ≡ i = omega arith in ap (λ (z : ℕ). get_or ys z 0) here
behind (x ∷ xs) ys i = let next : length (x ∷ xs) + i ≡ suc (length xs + i) = omega arith in ap (λ (z : ℕ). get_or (x ∷ (xs ++ ys)) z 0) next ∙ behind xs ys i

within : (xs : List ℕ) (a b : ℕ) → a < b → b < length xs → place xs a b < length (pair_sums xs)
unfolding place pair_sums
within [] a b less l = absurd (omega (arith, l))
within (x ∷ xs) zero b less l = omega (arith, less, l, length-append (map (bit_xor x) xs) (pair_sums xs), length-map (bit_xor x) xs)
within (x ∷ xs) (suc a) b less l = omega (arith, within xs a (b - 1) (omega (arith, less)) (omega (arith, less, l)), length-append (map (bit_xor x) xs) (pair_sums xs), length-map (bit_xor x) xs)

at_place : (xs : List ℕ) (a b : ℕ) → a < b → b < length xs → slice_index (pair_sums xs) (place xs a b) ≡ bit_xor (slice_index xs a) (slice_index xs b)
unfolding place pair_sums
at_place [] a b less l = absurd (omega (arith, l))
at_place (x ∷ xs) a zero less l = absurd (omega (arith, less))
at_place (x ∷ xs) zero (suc b) less l =
    let here : suc b - 1 ≡ b = omega arith in
    ap (λ (z : ℕ). get_or (map (bit_xor x) xs ++ pair_sums xs) z 0) here
    ∙ get_or-append (map (bit_xor x) xs) (pair_sums xs) 0 b (omega (arith, l, length-map (bit_xor x) xs)) ∙ get_or-map (bit_xor x) xs b (omega (arith, l))
at_place (x ∷ xs) (suc a) (suc b) less l =
    let here : suc b - 1 ≡ b = omega arith in
    ap (λ (z : ℕ). get_or (map (bit_xor x) xs ++ pair_sums xs) (length xs + place xs a z) 0) here
    ∙ ap (λ (z : ℕ). get_or (map (bit_xor x) xs ++ pair_sums xs) (z + place xs a b) 0) (sym (length-map (bit_xor x) xs))
    ∙ behind (map (bit_xor x) xs) (pair_sums xs) (place xs a b) ∙ at_place xs a b (omega (arith, less)) (omega (arith, l))

one_place : (xs : List ℕ) (a b c d : ℕ) → a < b → b < length xs → c < d → d < length xs → place xs a b ≡ place xs c d → (a ≡ c) × (b ≡ d)
unfolding place
one_place [] a b c d ab bl cd dl e = absurd (omega (arith, bl))
one_place (x ∷ xs) zero b zero d ab bl cd dl e = (refl, omega (arith, ab, cd, e))
one_place (x ∷ xs) zero b (suc c) d ab bl cd dl e = absurd (omega (arith, ab, bl, e))
one_place (x ∷ xs) (suc a) b zero d ab bl cd dl e = absurd (omega (arith, cd, dl, e))
one_place (x ∷ xs) (suc a) b (suc c) d ab bl cd dl e =
    let rest = one_place xs a (b - 1) c (d - 1) (omega (arith, ab)) (omega (arith, ab, bl)) (omega (arith, cd)) (omega (arith, cd, dl)) (omega (arith, e)) in
    (ap suc rest.0, omega (arith, rest.1, ab, cd))

same_place : (xs : List ℕ) → AreSmall xs → all_marks xs 16 ≡ true → (i j : ℕ) → i < length xs → j < length xs → slice_index xs i ≡ slice_index xs j → i ≡ j
same_place xs small m i j il jl e =
    elim (cases_lt i j) [
      | inl less ↦ absurd (differ xs small m i j less jl (sym e))
      | inr ge ↦ elim (cases_lt j i) [ inl less ↦ absurd (differ xs small m j i less il e) | inr le ↦ omega arith ]
    ]

-- sums of two elements are equal only if the elements are
pub same_sums : (xs : List ℕ) → AreSmall (pair_sums xs) → all_marks (pair_sums xs) 16 ≡ true → (a b c d : ℕ) → a < b → b < length xs → c < d → d < length xs → bit_xor (slice_index xs a) (slice_index xs b) ≡ bit_xor (slice_index xs c) (slice_index xs d) → (a ≡ c) × (b ≡ d)
same_sums xs small m a b c d ab bl cd dl e =
    one_place xs a b c d ab bl cd dl (same_place (pair_sums xs) small m (place xs a b) (place xs c d) (within xs a b ab bl) (within xs c d cd dl) (at_place xs a b ab bl ∙ e ∙ sym (at_place xs c d cd dl)))

pub no_zero_sum : (xs : List ℕ) → all_marks (pair_sums xs) 16 ≡ true → (a b : ℕ) → a < b → b < length xs → bit_xor (slice_index xs a) (slice_index xs b) ≢ 0
no_zero_sum xs m a b ab bl e =
    not_again 0 (pair_sums xs) 1 0 refl refl (all_marks-at (pair_sums xs) 16 0 m (omega arith)) (place xs a b) (within xs a b ab bl) (at_place xs a b ab bl ∙ e)

-- sums of small numbers are small
pub small_at : (xs : List ℕ) → list_all (λ x. nat_lt x 16384) xs ≡ true → AreSmall xs
small_at [] h k l = absurd (omega (arith, l))
small_at (x ∷ xs) h zero l = ltb-true _ _ (and_parts _ _ h).0
small_at (x ∷ xs) h (suc k) l = small_at xs (and_parts _ _ h).1 k (omega (arith, l))
