-- Counts over words.
use Rattle.std.proofs.Common.{◌≡◌, ℕ, suc, ◌+◌, ◌<◌, ◌≤◌, Bool, not, cond, ◌&&◌, List, [], ◌∷◌, ◌++◌, refl, sym, ap, ap₂, ◌∙◌, arith}
use Rattle.std.specs.Prelude.{Option, count_by, sum_by}
use Rattle.std.specs.List.{range_with_len}
use Rattle.std.proofs.lemmas.List.Sums.{sum_by_push}
use Rattle.std.proofs.lemmas.List.{length_push}
use Rattle.rs204.specs.declared.outcome.Outcome.{Outcome}
use Rattle.outer_chain.specs.Running.{is_clean_outcome, is_corrected_outcome, is_bad_outcome}
use Rattle.outer_chain.specs.Words.{phase_before, has, is_clean}
use Rattle.measurement.specs.SuperFrames.{repaired_in}
use Rattle.measurement.proofs.Lists.{range_counts, range_same}
use Rattle.outer_chain.proofs.WordLaws.{phase_same}
use Rattle.measure_words.specs.declared.counts.WordSums.{WordSums}
use Rattle.measure_words.specs.Sums.{sums_over, counted}

made : (w w2 a a2 b b2 c c2 d d2 e e2 : ℕ) → w ≡ w2 → a ≡ a2 → b ≡ b2 → c ≡ c2 → d ≡ d2 → e ≡ e2
    → (let s : WordSums = record { words = w; clean = a; corrected = b; bad = c; unphased = d; repaired = e } in s) ≡ record { words = w2; clean = a2; corrected = b2; bad = c2; unphased = d2; repaired = e2 }
made w w2 a a2 b b2 c c2 d d2 e e2 f g h i j k = cc

-- the counts over numbers below a bound depend on the words and their nearest codewords below it
pub sums_same : (near other : ℕ → Option (List ℕ)) (word words : ℕ → List ℕ) (a n m : ℕ) → a + n ≤ m → ((k : ℕ) → k < m → near k ≡ other k) → ((k : ℕ) → k < m → word k ≡ words k)
    → sums_over near word (range_with_len a n) ≡ sums_over other words (range_with_len a n)
sums_same near other word words a n m l h g =
    made _ _ _ _ _ _ _ _ _ _ _ _ refl
    (range_counts (λ x. is_clean (word x) (near x)) (λ x. is_clean (words x) (other x)) a n (λ k p q. ap₂ is_clean (g k (omega (arith, l, q))) (h k (omega (arith, l, q)))))
    (range_counts (λ x. has (near x) && not (is_clean (word x) (near x))) (λ x. has (other x) && not (is_clean (words x) (other x))) a n (λ k p q. ap₂ (λ (v : List ℕ) (z : Option (List ℕ)). has z && not (is_clean v z)) (g k (omega (arith, l, q))) (h k (omega (arith, l, q)))))
    (range_counts (λ x. not (has (near x))) (λ x. not (has (other x))) a n (λ k p q. ap (λ (z : Option (List ℕ)). not (has z)) (h k (omega (arith, l, q)))))
    (range_counts (λ x. not (has (phase_before near (suc x)))) (λ x. not (has (phase_before other (suc x)))) a n (λ k p q. ap (λ (z : Option ℕ). not (has z)) (phase_same near other (suc k) (λ i s. h i (omega (arith, l, q, s))))))
    (range_same (λ x. repaired_in (word x) (near x)) (λ x. repaired_in (words x) (other x)) a n (λ k p q. ap₂ repaired_in (g k (omega (arith, l, q))) (h k (omega (arith, l, q)))))

-- a word more
pub sums_push : (near : ℕ → Option (List ℕ)) (word : ℕ → List ℕ) (xs : List ℕ) (x : ℕ) (outcome : Outcome) (phased : Bool) (repaired : ℕ)
    → is_clean (word x) (near x) ≡ is_clean_outcome outcome → (has (near x) && not (is_clean (word x) (near x))) ≡ is_corrected_outcome outcome → not (has (near x)) ≡ is_bad_outcome outcome
    → has (phase_before near (suc x)) ≡ phased → repaired_in (word x) (near x) ≡ repaired
    → counted (sums_over near word xs) outcome phased repaired ≡ sums_over near word (xs ++ x ∷ [])
sums_push near word xs x outcome phased repaired cl co ba ph re =
    made _ _ _ _ _ _ _ _ _ _ _ _ (sym (length_push xs x))
    (ap (λ (b : Bool). count_by (λ x. is_clean (word x) (near x)) xs + cond b 1 0) (sym cl) ∙ sym (sum_by_push (λ x. cond (is_clean (word x) (near x)) 1 0) xs x))
    (ap (λ (b : Bool). count_by (λ x. has (near x) && not (is_clean (word x) (near x))) xs + cond b 1 0) (sym co) ∙ sym (sum_by_push (λ x. cond (has (near x) && not (is_clean (word x) (near x))) 1 0) xs x))
    (ap (λ (b : Bool). count_by (λ x. not (has (near x))) xs + cond b 1 0) (sym ba) ∙ sym (sum_by_push (λ x. cond (not (has (near x))) 1 0) xs x))
    (ap (λ (b : Bool). count_by (λ x. not (has (phase_before near (suc x)))) xs + cond (not b) 1 0) (sym ph) ∙ sym (sum_by_push (λ x. cond (not (has (phase_before near (suc x)))) 1 0) xs x))
    (ap (λ (b : ℕ). sum_by (λ x. repaired_in (word x) (near x)) xs + b) (sym re) ∙ sym (sum_by_push (λ x. repaired_in (word x) (near x)) xs x))
