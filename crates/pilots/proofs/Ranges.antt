-- Consecutive numbers that pass a test: how many, and which.
use Rattle.std.proofs.Common.{◌≡◌, ℕ, zero, suc, ◌+◌, ◌<◌, List, ◌∷◌, ◌++◌, length, refl, sym, ap, ◌∙◌, subst, arith, Bool, true, false, cond, ◌&&◌, ◌-◌, get_or, filter, count_by}
use Rattle.std.specs.List.{range_with_len}
use Rattle.std.proofs.lemmas.Bool.{and_parts}
use Rattle.std.proofs.lemmas.List.Sums.{sum_by-cons, sum_by-append}
use Rattle.spec_words.specs.Words.{numbers}

pub range_split : (a m n : ℕ) → range_with_len a (m + n) ≡ range_with_len a m ++ range_with_len (a + m) n
range_split a zero n = let same : a ≡ a + 0 = omega arith in let left : zero + n ≡ n = omega arith in ap (range_with_len a) left ∙ ap (λ (z : ℕ). range_with_len z n) same
range_split a (suc m) n =
    let left : suc m + n ≡ suc (m + n) = omega arith in
    let same : a + 1 + m ≡ a + suc m = omega arith in
    ap (range_with_len a) left ∙ ap (λ (zs : List ℕ). a ∷ zs) (range_split (a + 1) m n ∙ ap (λ (z : ℕ). range_with_len (a + 1) m ++ range_with_len z n) same)

-- the first number is counted separately
pub count_first : (p : ℕ → Bool) (a n : ℕ) → count_by p (range_with_len a (suc n)) ≡ cond (p a) 1 0 + count_by p (range_with_len (a + 1) n)
count_first p a n = sum_by-cons (λ x. cond (p x) 1 0) a (range_with_len (a + 1) n)

pub count_by-append : (p : ℕ → Bool) (xs ys : List ℕ) → count_by p (xs ++ ys) ≡ count_by p xs + count_by p ys
count_by-append p = sum_by-append (λ x. cond (p x) 1 0)

-- two tests that agree on the numbers
pub same_count : (p q : ℕ → Bool) (a n : ℕ) → ((i : ℕ) → i < n → p (a + i) ≡ q (a + i)) → count_by p (range_with_len a n) ≡ count_by q (range_with_len a n)
same_count p q a zero same = refl
same_count p q a (suc n) same =
    let here : a + 0 ≡ a = omega arith in
    let first : p a ≡ q a = subst (λ (z : ℕ). p z ≡ q z) here (same 0 (omega arith)) in
    let rest : count_by p (range_with_len (a + 1) n) ≡ count_by q (range_with_len (a + 1) n) = same_count p q (a + 1) n (λ i l. let next : a + suc i ≡ a + 1 + i = omega arith in subst (λ (z : ℕ). p z ≡ q z) next (same (suc i) (omega arith))) in
    count_first p a n ∙ ap (λ (b : Bool). cond b 1 0 + count_by p (range_with_len (a + 1) n)) first ∙ ap (λ (z : ℕ). cond (q a) 1 0 + z) rest ∙ sym (count_first q a n)

-- a test that repeats has the same count one period later
pub shifted_count : (p : ℕ → Bool) (period a n : ℕ) → ((k : ℕ) → p (period + k) ≡ p k) → count_by p (range_with_len (period + a) n) ≡ count_by p (range_with_len a n)
shifted_count p period a zero again = refl
shifted_count p period a (suc n) again =
    let next : period + a + 1 ≡ period + (a + 1) = omega arith in
    count_first p (period + a) n
    ∙ ap (λ (b : Bool). cond b 1 0 + count_by p (range_with_len (period + a + 1) n)) (again a)
    ∙ ap (λ (z : ℕ). cond (p a) 1 0 + count_by p (range_with_len z n)) next
    ∙ ap (λ (z : ℕ). cond (p a) 1 0 + z) (shifted_count p period (a + 1) n again)
    ∙ sym (count_first p a n)

-- the first number joins the others, or does not
pick : (a : ℕ) (b : Bool) (xs : List ℕ) (c v : ℕ) → get_or xs c 0 ≡ v → get_or (cond b (a ∷ xs) xs) (cond b 1 0 + c) 0 ≡ v
pick a true xs c v e = let one : 1 + c ≡ suc c = omega arith in ap (λ (z : ℕ). get_or (a ∷ xs) z 0) one ∙ e
pick a false xs c v e = let none : 0 + c ≡ c = omega arith in ap (λ (z : ℕ). get_or xs z 0) none ∙ e

-- the element of the filtered list at a passing number's count is that number
pub counted_at : (p : ℕ → Bool) (a n k : ℕ) → k < n → p (a + k) ≡ true → get_or (filter p (range_with_len a n)) (count_by p (range_with_len a k)) 0 ≡ a + k
counted_at p a zero k l passes = absurd (omega (arith, l))
counted_at p a (suc n) zero l passes = let here : a + 0 ≡ a = omega arith in let first : p a ≡ true = subst (λ (z : ℕ). p z ≡ true) here passes in rw first (omega arith)
counted_at p a (suc n) (suc k) l passes =
    let next : a + suc k ≡ a + 1 + k = omega arith in
    let rest : get_or (filter p (range_with_len (a + 1) n)) (count_by p (range_with_len (a + 1) k)) 0 ≡ a + 1 + k = counted_at p (a + 1) n k (omega arith) (subst (λ (z : ℕ). p z ≡ true) next passes) in
    ap (λ (z : ℕ). get_or (filter p (range_with_len a (suc n))) z 0) (count_first p a k)
    ∙ pick a (p a) (filter p (range_with_len (a + 1) n)) (count_by p (range_with_len (a + 1) k)) (a + 1 + k) rest ∙ sym next

-- an element of the filtered list passes, is in range, and its index is its own count
pub record IsCounted (p : ℕ → Bool) (a n q k : ℕ) : Type 0 where
  pub at : get_or (filter p (range_with_len a n)) q 0 ≡ a + k
  pub within : k < n
  pub passes : p (a + k) ≡ true
  pub count : count_by p (range_with_len a k) ≡ q

moved : (p : ℕ → Bool) (a n q r k : ℕ) → cond (p a) 1 0 + r ≡ q → IsCounted p (a + 1) n r k → IsCounted p a (suc n) q (suc k)
moved p a n q r k e h =
    let next : a + 1 + k ≡ a + suc k = omega arith in
    record {
      at = ap (λ (z : ℕ). get_or (filter p (range_with_len a (suc n))) z 0) (sym e) ∙ pick a (p a) (filter p (range_with_len (a + 1) n)) r (a + 1 + k) h.at ∙ next;
      within = omega (arith, h.within);
      passes = subst (λ (z : ℕ). p z ≡ true) next h.passes;
      count = omega (arith, e, h.count, count_first p a k);
    }

pub counted : (p : ℕ → Bool) (a n q : ℕ) → q < length (filter p (range_with_len a n)) → (k : ℕ) × IsCounted p a n q k
counted p a zero q l = absurd (omega (arith, l))
counted p a (suc n) q l = by_case (p a) refl q l (λ x. counted p (a + 1) n x)
  where
    by_case : (b : Bool) → p a ≡ b → (q : ℕ) → q < length (cond b (a ∷ filter p (range_with_len (a + 1) n)) (filter p (range_with_len (a + 1) n))) → ((x : ℕ) → x < length (filter p (range_with_len (a + 1) n)) → (k : ℕ) × IsCounted p (a + 1) n x k) → (k : ℕ) × IsCounted p a (suc n) q k
    by_case true e zero l rec = let here : a ≡ a + 0 = omega arith in (0, record { at = rw e here; within = omega arith; passes = subst (λ (z : ℕ). p z ≡ true) here e; count = refl })
    by_case true e (suc q) l rec = let more = rec q (omega (arith, l)) in let one : cond (p a) 1 0 + q ≡ suc q = rw e (omega arith) in (suc more.0, moved p a n (suc q) q more.0 one more.1)
    by_case false e q l rec = let more = rec q l in let none : cond (p a) 1 0 + q ≡ q = rw e (omega arith) in (suc more.0, moved p a n q q more.0 none more.1)

split_count : (p : ℕ → Bool) (k j : ℕ) → count_by p (range_with_len 0 (k + j)) ≡ count_by p (range_with_len 0 k) + count_by p (range_with_len (0 + k) j)
split_count p k j = ap (count_by p) (range_split 0 k j) ∙ count_by-append p (range_with_len 0 k) (range_with_len (0 + k) j)

-- the count grows if a number passes
pub count_less : (p : ℕ → Bool) (n k : ℕ) → k < n → p k ≡ true → count_by p (range_with_len 0 k) < count_by p (range_with_len 0 n)
count_less p n k l passes =
    let size : n ≡ k + suc (n - k - 1) = omega arith in
    let parts = split_count p k (suc (n - k - 1)) in
    let same : count_by p (range_with_len 0 n) ≡ count_by p (range_with_len 0 (k + suc (n - k - 1))) = ap (λ (z : ℕ). count_by p (range_with_len 0 z)) size in
    let here : 0 + k ≡ k = omega arith in
    let passed : p (0 + k) ≡ true = ap p here ∙ passes in
    let one : ◌≡◌ {A = ℕ} (cond (p (0 + k)) 1 0) 1 = ap (λ (b : Bool). cond b 1 0) passed in
    omega (arith, same, parts, one, count_first p (0 + k) (n - k - 1))

-- each of n numbers from a on passes
unfoldable pub all_pass : (ℕ → Bool) → ℕ → ℕ → Bool
all_pass p a zero = true
all_pass p a (suc n) = p a && all_pass p (a + 1) n

pub all_pass-at : (p : ℕ → Bool) (a n i : ℕ) → all_pass p a n ≡ true → i < n → p (a + i) ≡ true
unfolding all_pass
all_pass-at p a zero i h l = absurd (omega (arith, l))
all_pass-at p a (suc n) zero h l = let here : a ≡ a + 0 = omega arith in subst (λ (z : ℕ). p z ≡ true) here (and_parts _ _ h).0
all_pass-at p a (suc n) (suc i) h l = let next : a + 1 + i ≡ a + suc i = omega arith in subst (λ (z : ℕ). p z ≡ true) next (all_pass-at p (a + 1) n i (and_parts _ _ h).1 (omega (arith, l)))

-- the same for all numbers below n
pub same_below : (p q : ℕ → Bool) (n : ℕ) → ((i : ℕ) → i < n → p i ≡ q i) → count_by p (numbers n) ≡ count_by q (numbers n)
unfolding numbers
same_below p q n same = same_count p q 0 n (λ i l. let here : i ≡ 0 + i = omega arith in subst (λ (z : ℕ). p z ≡ q z) here (same i l))

-- a test that repeats after m numbers
pub one_period : (p : ℕ → Bool) (m n : ℕ) → ((k : ℕ) → p (m + k) ≡ p k) → count_by p (numbers (m + n)) ≡ count_by p (numbers m) + count_by p (numbers n)
unfolding numbers
one_period p m n again =
    let turn : 0 + m ≡ m + 0 = omega arith in
    ap (count_by p) (range_split 0 m n) ∙ count_by-append p (range_with_len 0 m) (range_with_len (0 + m) n)
    ∙ ap (λ (z : ℕ). count_by p (range_with_len 0 m) + count_by p (range_with_len z n)) turn
    ∙ ap (λ (z : ℕ). count_by p (range_with_len 0 m) + z) (shifted_count p m 0 n again)

pub none_below : (p : ℕ → Bool) → p 0 ≡ false → count_by p (numbers 1) ≡ 0
unfolding numbers
none_below p out = ap (λ (b : Bool). 0 + cond b 1 0) out

pub less_below : (p : ℕ → Bool) (n k : ℕ) → k < n → p k ≡ true → count_by p (numbers k) < count_by p (numbers n)
unfolding numbers
less_below p n k l passes = count_less p n k l passes

pub at_count : (p : ℕ → Bool) (n k : ℕ) → k < n → p k ≡ true → get_or (filter p (numbers n)) (count_by p (numbers k)) 0 ≡ k
unfolding numbers
at_count p n k l passes = let here : k ≡ 0 + k = omega arith in counted_at p 0 n k l (subst (λ (z : ℕ). p z ≡ true) here passes) ∙ sym here

-- k is the element at q
pub record IsAt (p : ℕ → Bool) (n q k : ℕ) : Type 0 where
  pub at : get_or (filter p (numbers n)) q 0 ≡ k
  pub within : k < n
  pub passes : p k ≡ true
  pub count : count_by p (numbers k) ≡ q

pub at_number : (p : ℕ → Bool) (n q : ℕ) → q < length (filter p (numbers n)) → (k : ℕ) × IsAt p n q k
unfolding numbers
at_number p n q l =
    let found = counted p 0 n q l in
    let here : 0 + found.0 ≡ found.0 = omega arith in
    (found.0, record { at = found.1.at ∙ here; within = found.1.within; passes = subst (λ (z : ℕ). p z ≡ true) here found.1.passes; count = found.1.count })
