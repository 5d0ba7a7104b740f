-- Lists of items before the first refused one.
use Rattle.std.proofs.Common.{◌≡◌, ℕ, zero, suc, ◌+◌, ◌-◌, ◌≤◌, ◌<◌, List, [], ◌∷◌, ◌++◌, refl, sym, ap, ◌∙◌, arith, cond}
use Rattle.std.specs.Prelude.{map, find, take_while, count_by, Option, Some, None, is_some, is_none, option_and_then, ⊤}
use Rattle.std.specs.List.{range_with_len}
use Rattle.std.proofs.lemmas.List.Sums.{take_while-cons, sum_by-append}
use Rattle.spec_words.specs.Words.{numbers}
use Rattle.mode_set.specs.declared.modes.Stream.{Stream}
use Rattle.transmission.specs.Agenda.{Item, take_packet, Refusal, is_send}

-- no item of the list is refused
abbrev pub AreClear : (Item → Option Refusal) → List Item → Type 0
AreClear r [] = ⊤
AreClear r (x ∷ xs) = (r x ≡ None) × AreClear r xs

pub both_clear : (r : Item → Option Refusal) (xs ys : List Item) → AreClear r xs → AreClear r ys → AreClear r (xs ++ ys)
both_clear r [] ys a b = b
both_clear r (x ∷ xs) ys a b = (a.0, both_clear r xs ys a.1 b)

pub found_at : (r : Item → Option Refusal) (xs ys : List Item) (x : Item) (e : Refusal) → AreClear r xs → r x ≡ Some e → option_and_then r (find (λ i. is_some (r i)) (xs ++ x ∷ ys)) ≡ Some e
found_at r [] ys x e a h = rw h h
found_at r (y ∷ xs) ys x e a h = let here : r y ≡ None = a.0 in rw here (found_at r xs ys x e a.1 h)

pub found_none : (r : Item → Option Refusal) (xs : List Item) → AreClear r xs → option_and_then r (find (λ i. is_some (r i)) xs) ≡ None
found_none r [] a = refl
found_none r (y ∷ xs) a = let here : r y ≡ None = a.0 in rw here (found_none r xs a.1)

pub taken_at : (r : Item → Option Refusal) (xs ys : List Item) (x : Item) (e : Refusal) → AreClear r xs → r x ≡ Some e → take_while (λ i. is_none (r i)) (xs ++ x ∷ ys) ≡ xs
taken_at r [] ys x e a h = take_while-cons (λ i. is_none (r i)) x ys ∙ rw h refl
taken_at r (y ∷ xs) ys x e a h = let here : r y ≡ None = a.0 in take_while-cons (λ i. is_none (r i)) y (xs ++ x ∷ ys) ∙ rw here (ap (λ (z : List Item). y ∷ z) (taken_at r xs ys x e a.1 h))

pub taken_all : (r : Item → Option Refusal) (xs : List Item) → AreClear r xs → take_while (λ i. is_none (r i)) xs ≡ xs
taken_all r [] a = refl
taken_all r (y ∷ xs) a = let here : r y ≡ None = a.0 in take_while-cons (λ i. is_none (r i)) y xs ∙ rw here (ap (λ (z : List Item). y ∷ z) (taken_all r xs a.1))

-- taking from a list continues after a part without refusals
pub taken_through : (r : Item → Option Refusal) (xs ys : List Item) → AreClear r xs → take_while (λ i. is_none (r i)) (xs ++ ys) ≡ xs ++ take_while (λ i. is_none (r i)) ys
taken_through r [] ys a = refl
taken_through r (y ∷ xs) ys a = let here : r y ≡ None = a.0 in take_while-cons (λ i. is_none (r i)) y (xs ++ ys) ∙ rw here (ap (λ (z : List Item). y ∷ z) (taken_through r xs ys a.1))

pub count_both : (xs ys : List Item) → count_by is_send (xs ++ ys) ≡ count_by is_send xs + count_by is_send ys
count_both xs ys = sum_by-append (λ x. cond (is_send x) 1 0) xs ys

-- packets being taken
pub takes_clear : (r : Item → Option Refusal) (σ : Stream) (a n : ℕ) → ((p : ℕ) → p < a + n → r (take_packet σ p) ≡ None) → AreClear r (map (take_packet σ) (range_with_len a n))
takes_clear r σ a zero h = tt
takes_clear r σ a (suc n) h = (h a (omega arith), takes_clear r σ (a + 1) n (λ p l. h p (omega (arith, l))))

pub takes_send : (σ : Stream) (a n : ℕ) → count_by is_send (map (take_packet σ) (range_with_len a n)) ≡ 0
takes_send σ a zero = refl
takes_send σ a (suc n) = takes_send σ (a + 1) n

pub takes_part : (σ : Stream) (a n k : ℕ) → map (take_packet σ) (range_with_len a (n + suc k)) ≡ map (take_packet σ) (range_with_len a n) ++ take_packet σ (a + n) ∷ map (take_packet σ) (range_with_len (a + n + 1) k)
takes_part σ a zero k =
    let here : a + 0 ≡ a = omega arith in
    let next : 0 + suc k ≡ suc k = omega arith in
    ap (λ (z : ℕ). map (take_packet σ) (range_with_len a z)) next ∙ ap (λ (z : ℕ). take_packet σ z ∷ map (take_packet σ) (range_with_len (z + 1) k)) (sym here)
takes_part σ a (suc n) k =
    let more : suc n + suc k ≡ suc (n + suc k) = omega arith in
    let there : a + 1 + n ≡ a + suc n = omega arith in
    ap (λ (z : ℕ). map (take_packet σ) (range_with_len a z)) more
    ∙ ap (λ (z : List Item). take_packet σ a ∷ z) (takes_part σ (a + 1) n k)
    ∙ ap (λ (z : ℕ). take_packet σ a ∷ (map (take_packet σ) (range_with_len (a + 1) n) ++ take_packet σ z ∷ map (take_packet σ) (range_with_len (z + 1) k))) there

-- a list that counts on, in two parts
range_parts : (a n k : ℕ) → range_with_len a (n + k) ≡ range_with_len a n ++ range_with_len (a + n) k
range_parts a zero k = let here : a + 0 ≡ a = omega arith in let none : 0 + k ≡ k = omega arith in ap (range_with_len a) none ∙ ap (λ (z : ℕ). range_with_len z k) (sym here)
range_parts a (suc n) k =
    let more : suc n + k ≡ suc (n + k) = omega arith in
    let there : a + 1 + n ≡ a + suc n = omega arith in
    ap (range_with_len a) more ∙ ap (λ (z : List ℕ). a ∷ z) (range_parts (a + 1) n k) ∙ ap (λ (z : ℕ). a ∷ (range_with_len (a + 1) n ++ range_with_len z k)) there

-- the numbers below n, split at one of them
pub numbers_at : (m n : ℕ) → m < n → numbers n ≡ numbers m ++ m ∷ range_with_len (m + 1) (n - m - 1)
unfolding numbers
numbers_at m n l =
    let whole : m + suc (n - m - 1) ≡ n = omega (arith, l) in
    let here : 0 + m ≡ m = omega arith in
    ap (range_with_len 0) (sym whole) ∙ range_parts 0 m (suc (n - m - 1)) ∙ ap (λ (z : ℕ). range_with_len 0 m ++ z ∷ range_with_len (z + 1) (n - m - 1)) here

pub numbers_to : (m n : ℕ) → m ≤ n → numbers n ≡ numbers m ++ range_with_len m (n - m)
unfolding numbers
numbers_to m n l =
    let whole : m + (n - m) ≡ n = omega (arith, l) in
    let here : 0 + m ≡ m = omega arith in
    ap (range_with_len 0) (sym whole) ∙ range_parts 0 m (n - m) ∙ ap (λ (z : ℕ). range_with_len 0 m ++ range_with_len z (n - m)) here
