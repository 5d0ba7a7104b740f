-- The symbols that count for a point: of the four where it is a scattered pilot, those that pass a test.
use Rattle.std.proofs.Common.{◌≡◌, ℕ, zero, suc, ◌+◌, ◌-◌, ◌%◌, ◌<◌, ◌≤◌, List, [], ◌∷◌, length, refl, sym, ap, ◌∙◌, subst, arith, map, Bool, true, false, not, cond, get_or, inl, inr}
use Rattle.std.specs.Prelude.{filter, ◌&&◌, nat_le, nat_lt}
use Rattle.std.proofs.lemmas.Bool.{and_parts, ltb-true, leb-true, lt-ltb, le-leb, cases_lt}
use Rattle.spec_words.specs.Words.{numbers}
use Rattle.tracking.specs.BadSymbols.{is_bad}
use Rattle.tracking.specs.Comb.{Comb, window_end}
use Rattle.tracking.specs.InTime.{place, distance, symbol_at, is_there, is_good, counting, counting_of}

abbrev pub four : ℕ → List ℕ
four d = map (place d) (numbers 4)

-- ---- filters
pub passes : (is : List ℕ) (p : ℕ → Bool) (i : ℕ) → i < length (filter p is) → p (get_or (filter p is) i 0) ≡ true
passes [] p i h = absurd (omega (arith, h))
passes (x ∷ is) p i h = by (p x) refl (passes is p) i h
  where
    by : (b : Bool) → p x ≡ b → ((k : ℕ) → k < length (filter p is) → p (get_or (filter p is) k 0) ≡ true) → (i : ℕ) → i < length (cond b (x ∷ filter p is) (filter p is)) → p (get_or (cond b (x ∷ filter p is) (filter p is)) i 0) ≡ true
    by true e r zero h = e
    by true e r (suc i) h = r i (omega (arith, h))
    by false e r i h = r i h

pub all_of : (is : List ℕ) (p : ℕ → Bool) (Q : ℕ → Type 0) → ((i : ℕ) → i < length is → Q (get_or is i 0)) → (i : ℕ) → i < length (filter p is) → Q (get_or (filter p is) i 0)
all_of [] p Q h i l = absurd (omega (arith, l))
all_of (x ∷ is) p Q h i l = by (p x) (all_of is p Q (λ k a. h (suc k) (omega (arith, a)))) i l
  where
    by : (b : Bool) → ((k : ℕ) → k < length (filter p is) → Q (get_or (filter p is) k 0)) → (i : ℕ) → i < length (cond b (x ∷ filter p is) (filter p is)) → Q (get_or (cond b (x ∷ filter p is) (filter p is)) i 0)
    by true r zero l = h 0 (omega arith)
    by true r (suc i) l = r i (omega (arith, l))
    by false r i l = r i l

pub some_of : (is : List ℕ) (p : ℕ → Bool) (i : ℕ) → i < length is → p (get_or is i 0) ≡ true → 1 ≤ length (filter p is)
some_of [] p i l e = absurd (omega (arith, l))
some_of (x ∷ is) p zero l e = subst (λ (t : Bool). 1 ≤ length (cond t (x ∷ filter p is) (filter p is))) (sym e) (omega arith)
some_of (x ∷ is) p (suc i) l e = by (p x) (some_of is p i (omega (arith, l)) e)
  where
    by : (b : Bool) → 1 ≤ length (filter p is) → 1 ≤ length (cond b (x ∷ filter p is) (filter p is))
    by true h = omega arith
    by false h = h

-- ---- the symbols that count are the present ones, or the good ones among them
pub record IsCounting (c : Comb) (m d : ℕ) (ps : List ℕ) : Type 0 where
  pub test : ℕ → Bool
  pub is : ps ≡ filter test (four d)
  pub there : (p : ℕ) → test p ≡ true → is_there c m p ≡ true

pub counting_is : (c : Comb) (m d : ℕ) → IsCounting c m d (counting c m d)
unfolding counting
counting_is c m d = of (filter (is_good c m) (four d)) refl
  where
    of : (good : List ℕ) → filter (is_good c m) (four d) ≡ good → IsCounting c m d (counting_of good (filter (is_there c m) (four d)))
    of [] e = record { test = is_there c m; is = refl; there = λ p h. h }
    of (x ∷ xs) e = record { test = is_good c m; is = sym e; there = λ p h. (and_parts (is_there c m p) (not (is_bad c m (symbol_at m p))) h).0 }

pub counts_there : {c : Comb} {m d : ℕ} {ps : List ℕ} (k : IsCounting c m d ps) (i : ℕ) → i < length ps → is_there c m (get_or ps i 0) ≡ true
counts_there {c} {m} {d} {ps} k i l =
    let h : i < length (filter k.test (four d)) = subst (λ (qs : List ℕ). i < length qs) k.is l in
    k.there (get_or ps i 0) (subst (λ (qs : List ℕ). k.test (get_or qs i 0) ≡ true) (sym k.is) (passes (four d) k.test i h))

-- a present symbol is in the file
pub inside : (c : Comb) (m p : ℕ) → is_there c m p ≡ true → symbol_at m p < c.count
inside c m p e =
    let within = (and_parts (nat_le 7 (m + p)) (nat_le (m - 7) (symbol_at m p) && nat_lt (symbol_at m p) (window_end c m)) e).1 in
    let last = (and_parts (nat_le (m - 7) (symbol_at m p)) (nat_lt (symbol_at m p) (window_end c m)) within).1 in
    let lt = ltb-true (symbol_at m p) (window_end c m) last in
    omega (arith, lt)

pub first_there : (c : Comb) (m p : ℕ) → is_there c m p ≡ true → 7 ≤ m + p
first_there c m p e = leb-true 7 (m + p) (and_parts (nat_le 7 (m + p)) (nat_le (m - 7) (symbol_at m p) && nat_lt (symbol_at m p) (window_end c m)) e).0

-- ---- each is one of the four
pub record IsPlace (d p : ℕ) : Type 0 where
  pub n : ℕ
  pub few : n < 4
  pub is : p ≡ place d n

four_at : (d i : ℕ) → i < length (four d) → IsPlace d (get_or (four d) i 0)
unfolding numbers
four_at d zero h = record { n = 0; few = omega arith; is = refl }
four_at d (suc zero) h = record { n = 1; few = omega arith; is = refl }
four_at d (suc (suc zero)) h = record { n = 2; few = omega arith; is = refl }
four_at d (suc (suc (suc zero))) h = record { n = 3; few = omega arith; is = refl }
four_at d (suc (suc (suc (suc i)))) h = absurd (omega (arith, h))

pub counts_place : {c : Comb} {m d : ℕ} {ps : List ℕ} (k : IsCounting c m d ps) (i : ℕ) → i < length ps → IsPlace d (get_or ps i 0)
counts_place {c} {m} {d} {ps} k i l =
    let h : i < length (filter k.test (four d)) = subst (λ (qs : List ℕ). i < length qs) k.is l in
    subst (λ (qs : List ℕ). IsPlace d (get_or qs i 0)) (sym k.is) (all_of (four d) k.test (IsPlace d) (four_at d) i h)

-- ---- in a file of four symbols at least one counts
there_is : (c : Comb) (m p : ℕ) → 7 ≤ m + p → m - 7 ≤ symbol_at m p → symbol_at m p < window_end c m → is_there c m p ≡ true
there_is c m p one two three =
    ap (λ (t : Bool). t && (nat_le (m - 7) (symbol_at m p) && nat_lt (symbol_at m p) (window_end c m))) (le-leb 7 (m + p) one)
    ∙ ap (λ (t : Bool). t && nat_lt (symbol_at m p) (window_end c m)) (le-leb (m - 7) (symbol_at m p) two) ∙ lt-ltb (symbol_at m p) (window_end c m) three

some_there : (c : Comb) (m d : ℕ) → m < c.count → 4 ≤ c.count → d < 4 → 1 ≤ length (filter (is_there c m) (four d))
unfolding numbers
some_there c m d h wide few = elim (cases_lt m d) [
  | inl lt ↦ some_of (four d) (is_there c m) 2 (omega arith) (there_is c m (place d 2) (omega (arith, few)) (omega (arith, few, lt)) (omega (arith, few, lt, wide, h)))
  | inr ge ↦ some_of (four d) (is_there c m) 1 (omega arith) (there_is c m (place d 1) (omega (arith, few, ge)) (omega (arith, few, ge)) (omega (arith, few, ge, wide, h)))
]

pub some_counts : (c : Comb) (m d : ℕ) → m < c.count → 4 ≤ c.count → d < 4 → 1 ≤ length (counting c m d)
unfolding counting
some_counts c m d h wide few = of (filter (is_good c m) (four d))
  where
    of : (good : List ℕ) → 1 ≤ length (counting_of good (filter (is_there c m) (four d)))
    of [] = some_there c m d h wide few
    of (x ∷ xs) = omega arith

-- a symbol that counts for a point has it as a scattered pilot
pub counts_scattered : (m j p : ℕ) → IsPlace (distance m j) p → 7 ≤ m + p → symbol_at m p % 4 ≡ j % 4
counts_scattered m j p k h = omega (arith, k.few, k.is, h)
