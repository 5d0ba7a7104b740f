-- Searches that end: below a number, in a list, among the lists of n bytes.
use Rattle.std.proofs.Common.{◌≡◌, ℕ, zero, suc, ◌<◌, ◌≤◌, Bool, true, false, List, [], ◌∷◌, length, ◌⊎◌, inl, inr, refl, sym, ap, subst, arith}
use Rattle.std.specs.Prelude.{IsTrue, ◌↔◌}
use Rattle.std.specs.List.{AllByRecursion}
use Rattle.std.proofs.lemmas.Bool.{cases_lt, cases_order, true≢false}
use Rattle.rs204.specs.Codes.{AreBytes}
use Rattle.code_paths.proofs.Deciding.{Decided}

-- ---- decided facts

pub same_number : (a b : ℕ) → Decided (a ≡ b)
same_number a b = go (cases_order a b)
  where
    go : (a ≡ b) ⊎ ((a < b) ⊎ (b < a)) → Decided (a ≡ b)
    go (inl e) = inl e
    go (inr (inl l)) = inr (λ e. absurd (omega (arith, l, e)))
    go (inr (inr l)) = inr (λ e. absurd (omega (arith, l, e)))

pub at_most : (a b : ℕ) → Decided (a ≤ b)
at_most a b = go (cases_lt b a)
  where
    go : (b < a) ⊎ (a ≤ b) → Decided (a ≤ b)
    go (inl l) = inr (λ h. absurd (omega (arith, l, h)))
    go (inr l) = inl l

pub both : {A B : Type 0} → Decided A → Decided B → Decided (A × B)
both (inl a) (inl b) = inl (a, b)
both (inl a) (inr n) = inr (λ h. n h.1)
both (inr n) b = inr (λ h. n h.0)

-- a fact that must hold if a test passes, or if it fails
pub if_true : {A : Type 0} (b : Bool) → Decided A → Decided (b ≡ true → A)
if_true true (inl a) = inl (λ e. a)
if_true true (inr n) = inr (λ h. n (h refl))
if_true false d = inl (λ e. absurd (true≢false (sym e)))

pub if_false : {A : Type 0} (b : Bool) → Decided A → Decided (b ≡ false → A)
if_false false (inl a) = inl (λ e. a)
if_false false (inr n) = inr (λ h. n (h refl))
if_false true d = inl (λ e. absurd (true≢false e))

-- the test of a decided fact
pub test : {A : Type 0} → Decided A → Bool
test (inl a) = true
test (inr n) = false

pub tested : {A : Type 0} (d : Decided A) → IsTrue (test d) ↔ A
unfolding test
tested (inl a) = (λ e. a, λ h. refl)
tested (inr n) = (λ e. absurd (true≢false (sym e)), λ h. absurd (n h))

-- ---- searches

-- a number below n
pub record Below (n : ℕ) (P : ℕ → Type 0) : Type 0 where
  pub number : ℕ
  pub is_below : number < n
  pub holds : P number

pub find_below : (n : ℕ) (P : ℕ → Type 0) → ((k : ℕ) → k < n → Decided (P k)) → Decided (Below n P)
find_below zero P d = inr (λ f. absurd (omega (arith, f.is_below)))
find_below (suc n) P d = go (d n (omega arith)) (find_below n P (λ k l. d k (omega (arith, l))))
  where
    below : (P n → ⊥) → (Below n P → ⊥) → (k : ℕ) → k < suc n → P k → (k < n) ⊎ (n ≤ k) → ⊥
    below m none k l p (inl h) = none (record { number = k; is_below = h; holds = p })
    below m none k l p (inr h) = let e : k ≡ n = omega (arith, l, h) in m (subst P e p)

    go : Decided (P n) → Decided (Below n P) → Decided (Below (suc n) P)
    go (inl p) rest = inl (record { number = n; is_below = omega arith; holds = p })
    go (inr m) (inl f) = inl (record { number = f.number; is_below = omega (arith, f.is_below); holds = f.holds })
    go (inr m) (inr none) = inr (λ f. below m none f.number f.is_below f.holds (cases_lt f.number n))

-- an element of a list
pub find_in : {A : Type 0} (P : A → Type 0) → ((x : A) → Decided (P x)) → (xs : List A) → ((x : A) × P x) ⊎ AllByRecursion (λ x. P x → ⊥) xs
find_in P d [] = inr tt
find_in {A} P d (x ∷ xs) = go (d x) (find_in P d xs)
  where
    go : Decided (P x) → ((x : A) × P x) ⊎ AllByRecursion (λ x. P x → ⊥) xs → ((x : A) × P x) ⊎ AllByRecursion (λ x. P x → ⊥) (x ∷ xs)
    go (inl p) rest = inl (x, p)
    go (inr n) (inl f) = inl f
    go (inr n) (inr none) = inr (n, none)

-- n bytes
pub record Bytes (n : ℕ) (P : List ℕ → Type 0) : Type 0 where
  pub bytes : List ℕ
  pub long : length bytes ≡ n
  pub are : AreBytes bytes
  pub holds : P bytes

pub find_bytes : (n : ℕ) (P : List ℕ → Type 0) → ((c : List ℕ) → length c ≡ n → AreBytes c → Decided (P c)) → Decided (Bytes n P)
find_bytes zero P d = go (d [] refl tt)
  where
    none : (P [] → ⊥) → (c : List ℕ) → length c ≡ 0 → P c → ⊥
    none m [] l p = m p
    none m (b ∷ c) l p = absurd (omega arith)

    go : Decided (P []) → Decided (Bytes 0 P)
    go (inl p) = inl (record { bytes = []; long = refl; are = tt; holds = p })
    go (inr m) = inr (λ f. none m f.bytes f.long f.holds)
find_bytes (suc n) P d =
    go (find_below 256 (λ b. Bytes n (λ c. P (b ∷ c))) (λ b l. find_bytes n (λ c. P (b ∷ c)) (λ c m a. d (b ∷ c) (ap suc m) (l, a))))
  where
    none : (Below 256 (λ b. Bytes n (λ c. P (b ∷ c))) → ⊥) → (c : List ℕ) → length c ≡ suc n → AreBytes c → P c → ⊥
    none m [] l a p = absurd (omega arith)
    none m (b ∷ c) l a p = m (record { number = b; is_below = a.0; holds = record { bytes = c; long = omega arith; are = a.1; holds = p } })

    go : Decided (Below 256 (λ b. Bytes n (λ c. P (b ∷ c)))) → Decided (Bytes (suc n) P)
    go (inl f) = inl (record { bytes = f.number ∷ f.holds.bytes; long = ap suc f.holds.long; are = (f.is_below, f.holds.are); holds = f.holds.holds })
    go (inr m) = inr (λ f. none m f.bytes f.long f.are f.holds)
