-- The meaning of the computed walk over the tables.
use Rattle.std.proofs.Common.{◌≡◌, ℕ, zero, suc, ◌+◌, ◌<◌, List, [], ◌∷◌, refl, sym, ap, ◌∙◌, arith, Bool, true, false, cond, filter, count_by}
use Rattle.std.specs.Prelude.{◌==◌}
use Rattle.std.specs.List.{range_with_len}
use Rattle.std.proofs.lemmas.Bool.{eqb-true, and_parts}
use Rattle.spec_words.specs.Words.{numbers}
use Rattle.pilots.specs.Tables.{payload_set, below_words, rank, is_free}
use Rattle.pilots.proofs.Ranges.{count_first}
use Rattle.pilots.proofs.Checked.{walks, begins, tail, is_empty}

-- the number of payload carriers below a carrier, from the tables
abbrev pub below : ℕ → ℕ → ℕ
below symbol k = rank (payload_set symbol) (below_words symbol) k

record Steps (symbol i k n : ℕ) (xs : List ℕ) : Type 0 where
  here : below symbol k ≡ n
  begins : cond (is_free symbol k) (begins xs k) true ≡ true
  rest : walks symbol i (k + 1) (cond (is_free symbol k) (n + 1) n) (cond (is_free symbol k) (tail xs) xs) ≡ true

steps : (symbol i k n : ℕ) (xs : List ℕ) → walks symbol (suc i) k n xs ≡ true → Steps symbol i k n xs
unfolding walks
steps symbol i k n xs w =
    let outer = and_parts _ _ w in
    let inner = and_parts _ _ outer.0 in
    record { here = eqb-true _ _ inner.0; begins = inner.1; rest = outer.1 }

added : (b : Bool) (n : ℕ) → cond b (n + 1) n ≡ n + cond b 1 0
added true n = refl
added false n = omega arith

walk_rank : (symbol i k n : ℕ) (xs : List ℕ) → walks symbol i k n xs ≡ true → (j : ℕ) → j < i → below symbol (k + j) ≡ n + count_by (is_free symbol) (range_with_len k j)
walk_rank symbol zero k n xs w j l = absurd (omega (arith, l))
walk_rank symbol (suc i) k n xs w zero l = let here : k + 0 ≡ k = omega arith in ap (below symbol) here ∙ (steps symbol i k n xs w).here ∙ omega arith
walk_rank symbol (suc i) k n xs w (suc j) l =
    let next : k + suc j ≡ k + 1 + j = omega arith in
    let more = walk_rank symbol i (k + 1) _ _ (steps symbol i k n xs w).rest j (omega arith) in
    ap (below symbol) next ∙ more ∙ omega (arith, added (is_free symbol k) n, count_first (is_free symbol) k j)

walk_count : (symbol i k n : ℕ) (xs : List ℕ) → walks symbol i k n xs ≡ true → n + count_by (is_free symbol) (range_with_len k i) ≡ 1512
unfolding walks
walk_count symbol zero k n xs w = let e : n ≡ 1512 = eqb-true _ _ (and_parts _ _ w).0 in omega (arith, e)
walk_count symbol (suc i) k n xs w = omega (arith, added (is_free symbol k) n, count_first (is_free symbol) k i, walk_count symbol i (k + 1) _ _ (steps symbol i k n xs w).rest)

walk_list : (symbol i k n : ℕ) (xs : List ℕ) → walks symbol i k n xs ≡ true → xs ≡ filter (is_free symbol) (range_with_len k i)
unfolding walks
walk_list symbol zero k n [] w = refl
walk_list symbol zero k n (x ∷ xs) w = let no : false ≡ true = (and_parts (n == 1512) (is_empty (x ∷ xs)) w).1 in cc
walk_list symbol (suc i) k n xs w =
    by_case (is_free symbol k) xs (steps symbol i k n xs w).begins (walk_list symbol i (k + 1) _ _ (steps symbol i k n xs w).rest)
  where
    by_case : (b : Bool) (xs : List ℕ) → cond b (begins xs k) true ≡ true → cond b (tail xs) xs ≡ filter (is_free symbol) (range_with_len (k + 1) i) → xs ≡ cond b (k ∷ filter (is_free symbol) (range_with_len (k + 1) i)) (filter (is_free symbol) (range_with_len (k + 1) i))
    by_case true [] e f = cc
    by_case true (x ∷ xs) e f = let same : x ≡ k = eqb-true _ _ e in cc
    by_case false xs e f = f

-- the same from carrier 0 on
pub rank_is : (symbol i : ℕ) (xs : List ℕ) → walks symbol i 0 0 xs ≡ true → (k : ℕ) → k < i → below symbol k ≡ count_by (is_free symbol) (numbers k)
unfolding numbers
rank_is symbol i xs w k l =
    let here : 0 + k ≡ k = omega arith in
    let none : 0 + count_by (is_free symbol) (range_with_len 0 k) ≡ count_by (is_free symbol) (range_with_len 0 k) = omega arith in
    ap (below symbol) (sym here) ∙ walk_rank symbol i 0 0 xs w k l ∙ none

pub count_of_walk : (symbol i : ℕ) (xs : List ℕ) → walks symbol i 0 0 xs ≡ true → count_by (is_free symbol) (numbers i) ≡ 1512
unfolding numbers
count_of_walk symbol i xs w = omega (arith, walk_count symbol i 0 0 xs w)

pub list_is : (symbol i : ℕ) (xs : List ℕ) → walks symbol i 0 0 xs ≡ true → xs ≡ filter (is_free symbol) (numbers i)
unfolding numbers
list_is symbol i xs w = walk_list symbol i 0 0 xs w
