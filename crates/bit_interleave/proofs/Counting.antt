-- The numbers below n, and the first one that passes a test.
use Rattle.std.proofs.Common.{◌≡◌, ℕ, zero, suc, ◌+◌, ◌<◌, List, [], ◌∷◌, ◌++◌, length, ap, ◌∙◌, arith, Bool, true, false}
use Rattle.std.specs.List.{range_with_len}
use Rattle.std.proofs.lemmas.List.FromFn.{length-range_with_len, get_or-range_with_len}
use Rattle.std.proofs.lemmas.List.Sums.{position_or_len_is}
use Rattle.spec_words.specs.Words.{numbers, first_below}

range_end : (a n : ℕ) → range_with_len a (suc n) ≡ range_with_len a n ++ (a + n) ∷ []
range_end a zero = ap (λ (z : ℕ). z ∷ []) (omega arith)
range_end a (suc n) = ap (λ (zs : List ℕ). a ∷ zs) (range_end (a + 1) n) ∙ ap (λ (z : ℕ). a ∷ (range_with_len (a + 1) n ++ z ∷ [])) (omega arith)

-- a loop that counts on has one number more
pub numbers_end : (n : ℕ) → numbers (n + 1) ≡ numbers n ++ n ∷ []
unfolding numbers
numbers_end n = let next : n + 1 ≡ suc n = omega arith in ap (range_with_len 0) next ∙ range_end 0 n ∙ ap (λ (z : ℕ). range_with_len 0 n ++ z ∷ []) (omega arith)

-- the first number below n that passes, where only one can be meant
pub first_is : (n d : ℕ) (test : ℕ → Bool) → d < n → test d ≡ true → ((k : ℕ) → k < d → test k ≡ false) → first_below n test ≡ d
unfolding numbers
first_is n d test l passes none =
    let size : length (range_with_len 0 n) ≡ n = length-range_with_len 0 n in
    position_or_len_is test (range_with_len 0 n) d 0 (omega (arith, size))
    (λ k m. ap test (get_or-range_with_len 0 n k 0 (omega arith) ∙ (omega arith)) ∙ none k m)
    (λ m. ap test (get_or-range_with_len 0 n d 0 l ∙ (omega arith)) ∙ passes)
