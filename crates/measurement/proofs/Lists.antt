-- Sums and counts over consecutive numbers.
use Rattle.std.proofs.Common.{◌≡◌, ℕ, zero, suc, ◌+◌, ◌<◌, ◌≤◌, Bool, false, cond, List, ◌++◌, length, refl, sym, ap, ap₂, ◌∙◌, arith}
use Rattle.std.specs.Prelude.{sum_by, count_by, All}
use Rattle.std.specs.List.{range_with_len}
use Rattle.std.proofs.lemmas.List.Sums.{sum_by-cons, sum_by-append, length-filter}
use Rattle.reception.proofs.Numbered.{none_pass}

pub range_same : (f g : ℕ → ℕ) (a n : ℕ) → ((k : ℕ) → a ≤ k → k < a + n → f k ≡ g k) → sum_by f (range_with_len a n) ≡ sum_by g (range_with_len a n)
range_same f g a zero h = refl
range_same f g a (suc n) h =
    sum_by-cons f a (range_with_len (a + 1) n)
    ∙ ap₂ (λ (x y : ℕ). x + y) (h a (omega arith) (omega arith)) (range_same f g (a + 1) n (λ k p q. h k (omega (arith, p)) (omega (arith, q))))
    ∙ sym (sum_by-cons g a (range_with_len (a + 1) n))

pub range_counts : (p q : ℕ → Bool) (a n : ℕ) → ((k : ℕ) → a ≤ k → k < a + n → p k ≡ q k) → count_by p (range_with_len a n) ≡ count_by q (range_with_len a n)
range_counts p q a n h = range_same (λ k. cond (p k) 1 0) (λ k. cond (q k) 1 0) a n (λ k l m. ap (λ (b : Bool). cond b 1 0) (h k l m))

-- elements that fail a test add nothing to a count
pub count_front : (p : ℕ → Bool) (xs ys : List ℕ) → All (λ x. p x ≡ false) ys → count_by p (xs ++ ys) ≡ count_by p xs
count_front p xs ys h =
    let none : count_by p ys ≡ 0 = sym (length-filter p ys) ∙ ap length (none_pass p ys h) in
    sum_by-append (λ x. cond (p x) 1 0) xs ys ∙ (omega (arith, none))
