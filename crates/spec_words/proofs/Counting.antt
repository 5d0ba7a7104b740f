-- The numbers below n, and the first one that passes a test.
use Rattle.std.proofs.Common.{◌≡◌, ℕ, zero, suc, ◌+◌, ◌<◌, ◌≤◌, List, [], ◌∷◌, ◌++◌, length, get_or, ap, ◌∙◌, arith, Bool, true, false, inl, inr, sym}
use Rattle.std.specs.List.{range_with_len}
use Rattle.std.proofs.lemmas.List.FromFn.{length-range_with_len, get_or-range_with_len}
use Rattle.std.proofs.lemmas.List.Sums.{position_or_len_is, passes_at_first}
use Rattle.std.proofs.lemmas.Bool.{cases_lt, true≢false}
use Rattle.spec_words.specs.Words.{numbers, first_below}

range_end : (a n : ℕ) → range_with_len a (suc n) ≡ range_with_len a n ++ (a + n) ∷ []
range_end a zero = ap (λ (z : ℕ). z ∷ []) (omega arith)
range_end a (suc n) = ap (λ (zs : List ℕ). a ∷ zs) (range_end (a + 1) n) ∙ ap (λ (z : ℕ). a ∷ (range_with_len (a + 1) n ++ z ∷ [])) (omega arith)

-- one more number at the end of a list that counts on
pub numbers_end : (n : ℕ) → numbers (n + 1) ≡ numbers n ++ n ∷ []
unfolding numbers
numbers_end n = let next : n + 1 ≡ suc n = omega arith in ap (range_with_len 0) next ∙ range_end 0 n ∙ ap (λ (z : ℕ). range_with_len 0 n ++ z ∷ []) (omega arith)

pub length-numbers : (n : ℕ) → length (numbers n) ≡ n
unfolding numbers
length-numbers n = length-range_with_len 0 n

pub get_or-numbers : (n k : ℕ) → k < n → get_or (numbers n) k 0 ≡ k
unfolding numbers
get_or-numbers n k l = get_or-range_with_len 0 n k 0 l ∙ (omega arith)

-- the first number below n that passes, or n: none before it does
pub first_is : (n d : ℕ) (test : ℕ → Bool) → d ≤ n → ((k : ℕ) → k < d → test k ≡ false) → (d < n → test d ≡ true) → first_below n test ≡ d
unfolding numbers
first_is n d test within none passes =
    let size : length (range_with_len 0 n) ≡ n = length-range_with_len 0 n in
    position_or_len_is test (range_with_len 0 n) d 0 (omega (arith, size))
    (λ k m. ap test (get_or-range_with_len 0 n k 0 (omega arith) ∙ (omega arith)) ∙ none k m)
    (λ m. ap test (get_or-range_with_len 0 n d 0 (omega (arith, size, m)) ∙ (omega arith)) ∙ passes (omega (arith, size, m)))

-- none of the first d passes, so the first one that does is not below d
pub first_from : (n d : ℕ) (test : ℕ → Bool) → d ≤ n → ((k : ℕ) → k < d → test k ≡ false) → d ≤ first_below n test
unfolding numbers
first_from n d test within none = elim (cases_lt (first_below n test) d) [
  | inl lt ↦
      let r = first_below n test in
      let size : length (range_with_len 0 n) ≡ n = length-range_with_len 0 n in
      let here : get_or (range_with_len 0 n) r 0 ≡ r = get_or-range_with_len 0 n r 0 (omega arith) ∙ (omega arith) in
      absurd (true≢false (sym (passes_at_first test (range_with_len 0 n) 0 (omega (arith, size, lt))) ∙ ap test here ∙ none r lt))
  | inr ge ↦ ge
]
