-- Sums of what each step adds to a count.
use Rattle.std.proofs.Common.{◌≡◌, ℕ, zero, suc, ◌+◌, ◌-◌, ◌<◌, ◌≤◌, Bool, true, false, cond, List, [], ◌∷◌, length, refl, sym, ap, ap₂, ◌∙◌, arith}
use Rattle.std.specs.Prelude.{sum_by, count_by, All}
use Rattle.std.specs.List.{range_with_len}
use Rattle.std.proofs.lemmas.List.Sums.{sum_by-cons}
use Rattle.std.proofs.lemmas.List.Elements.{All-head, All-tail}
use Rattle.spec_words.specs.Words.{numbers}
use Rattle.outer_chain.specs.Words.{count}
use Rattle.measure_sums.proofs.Counting.{no_numbers, sum_more}

-- the sum of what each step adds is the final value
pub added_up : (h v : ℕ → ℕ) (n : ℕ) → h 0 ≡ 0 → ((j : ℕ) → j < n → v j + h j ≡ h (suc j)) → sum_by v (numbers n) ≡ h n
added_up h v zero e step = no_numbers v ∙ sym e
added_up h v (suc n) e step =
    let next : suc n ≡ n + 1 = omega arith in
    let rest = added_up h v n e (λ j l. step j (omega (arith, l))) in
    ap (λ (z : ℕ). sum_by v (numbers z)) next ∙ sum_more v n ∙ (omega (arith, rest, step n (omega arith)))

-- consecutive numbers follow those below them
pub run_added : (f : ℕ → ℕ) (a n : ℕ) → sum_by f (range_with_len a n) + sum_by f (numbers a) ≡ sum_by f (numbers (a + n))
run_added f a zero =
    let e : a ≡ a + 0 = omega arith in
    let same = ap (λ (z : ℕ). sum_by f (numbers z)) e in
    omega (arith, same)
run_added f a (suc n) =
    let rest = run_added f (a + 1) n in
    let here = sum_more f a in
    let e : a + 1 + n ≡ a + suc n = omega arith in
    (omega (arith, sum_by-cons f a (range_with_len (a + 1) n), rest, here)) ∙ ap (λ (z : ℕ). sum_by f (numbers z)) e

pub part_added : (f : ℕ → ℕ) (a b : ℕ) → a ≤ b → sum_by f (range_with_len a (b - a)) + sum_by f (numbers a) ≡ sum_by f (numbers b)
part_added f a b l = let e : a + (b - a) ≡ b = omega (arith, l) in run_added f a (b - a) ∙ ap (λ (z : ℕ). sum_by f (numbers z)) e

-- the two ways to count below a number
pub counted : (p : ℕ → Bool) (n : ℕ) → count_by p (numbers n) ≡ count p n
unfolding count
counted p zero = no_numbers (λ k. cond (p k) 1 0)
counted p (suc n) =
    let next : suc n ≡ n + 1 = omega arith in
    let step = sum_more (λ k. cond (p k) 1 0) n in
    let rest = counted p n in
    ap (λ (z : ℕ). count_by p (numbers z)) next ∙ (omega (arith, step, rest))

-- a count over more numbers
pub count_on : (p : ℕ → Bool) (a n : ℕ) → count p (a + n) ≡ count p a + count (λ i. p (a + i)) n
unfolding count
count_on p a zero = let e : a + 0 ≡ a = omega arith in ap (count p) e ∙ (omega arith)
count_on p a (suc n) =
    let e : a + suc n ≡ suc (a + n) = omega arith in
    let rest = count_on p a n in
    ap (count p) e ∙ (omega (arith, rest))

pub count_alike : (p q : ℕ → Bool) (n : ℕ) → ((k : ℕ) → k < n → p k ≡ q k) → count p n ≡ count q n
unfolding count
count_alike p q zero h = refl
count_alike p q (suc n) h = ap₂ (λ (b : Bool) (k : ℕ). cond b 1 0 + k) (h n (omega arith)) (count_alike p q n (λ k l. h k (omega (arith, l))))

-- elements that pass one of two tests that exclude each other
pub counts_join : (p q r : ℕ → Bool) (xs : List ℕ) → ((x : ℕ) → ◌≡◌ {A = ℕ} (cond (p x) 1 0 + cond (q x) 1 0) (cond (r x) 1 0)) → count_by p xs + count_by q xs ≡ count_by r xs
counts_join p q r [] h = refl
counts_join p q r (x ∷ xs) h =
    let rest = counts_join p q r xs h in
    omega (arith, rest, h x, sum_by-cons (λ k. cond (p k) 1 0) x xs, sum_by-cons (λ k. cond (q k) 1 0) x xs, sum_by-cons (λ k. cond (r k) 1 0) x xs)

pub all_counted : (p : ℕ → Bool) (xs : List ℕ) → All (λ x. p x ≡ true) xs → count_by p xs ≡ length xs
all_counted p [] h = refl
all_counted p (x ∷ xs) h =
    let rest = all_counted p xs (All-tail (λ x. p x ≡ true) x xs h) in
    let here : ◌≡◌ {A = ℕ} (cond (p x) 1 0) 1 = ap (λ (b : Bool). cond b 1 0) (All-head (λ x. p x ≡ true) x xs h) in
    omega (arith, rest, here, sum_by-cons (λ k. cond (p k) 1 0) x xs)

pub none_counted : (p : ℕ → Bool) (xs : List ℕ) → All (λ x. p x ≡ false) xs → count_by p xs ≡ 0
none_counted p [] h = refl
none_counted p (x ∷ xs) h =
    let rest = none_counted p xs (All-tail (λ x. p x ≡ false) x xs h) in
    let here : ◌≡◌ {A = ℕ} (cond (p x) 1 0) 0 = ap (λ (b : Bool). cond b 1 0) (All-head (λ x. p x ≡ false) x xs h) in
    omega (arith, rest, here, sum_by-cons (λ k. cond (p k) 1 0) x xs)

pub count_few : (p : ℕ → Bool) (n : ℕ) → count p n ≤ n
unfolding count
count_few p zero = omega arith
count_few p (suc n) = go (p n) (count_few p n)
  where
    go : (b : Bool) → count p n ≤ n → cond b 1 0 + count p n ≤ suc n
    go true l = omega (arith, l)
    go false l = omega (arith, l)

pub no_count : (p : ℕ → Bool) → count p 0 ≡ 0
unfolding count
no_count p = refl
