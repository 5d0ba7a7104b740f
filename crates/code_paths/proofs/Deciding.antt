-- Decidable facts, and inductions from the end of a list.
use Rattle.std.proofs.Common.{◌≡◌, ℕ, zero, suc, Bool, true, false, List, [], ◌∷◌, ◌++◌, length, ◌⊎◌, inl, inr, refl, sym, ap, subst, arith}

-- it holds, or it does not
abbrev pub Decided : Type 0 → Type 0
Decided A = A ⊎ (A → ⊥)

-- ---- lists of bits

pub same_bit : (a b : Bool) → Decided (a ≡ b)
same_bit true true = inl refl
same_bit false false = inl refl
same_bit true false = inr (λ e. cc)
same_bit false true = inr (λ e. cc)

inside : {A : Type 0} (x y : A) (xs ys : List A) → x ∷ xs ≡ y ∷ ys → (x ≡ y) × (xs ≡ ys)
inside x y xs ys e = (cc, cc)

-- two lists are equal or not
pub same_list : {A : Type 0} → ((x y : A) → Decided (x ≡ y)) → (xs ys : List A) → Decided (xs ≡ ys)
same_list same [] [] = inl refl
same_list same [] (y ∷ ys) = inr (λ e. absurd (omega (arith, ap length e)))
same_list same (x ∷ xs) [] = inr (λ e. absurd (omega (arith, ap length e)))
same_list {A} same (x ∷ xs) (y ∷ ys) = go (same x y) (same_list same xs ys)
  where
    go : Decided (x ≡ y) → Decided (xs ≡ ys) → Decided (x ∷ xs ≡ y ∷ ys)
    go (inl e) (inl f) = inl (cc)
    go (inl e) (inr n) = inr (λ h. n (inside x y xs ys h).1)
    go (inr n) d = inr (λ h. n (inside x y xs ys h).0)

-- what is decidable for each list of n bits is decidable for all
pub all_bits : (n : ℕ) (P : List Bool → Type 0) → ((e : List Bool) → length e ≡ n → Decided (P e)) → Decided ((e : List Bool) → length e ≡ n → P e)
all_bits zero P d = go (d [] refl)
  where
    only : P [] → (e : List Bool) → length e ≡ 0 → P e
    only p [] l = p
    only p (b ∷ e) l = absurd (omega arith)

    go : Decided (P []) → Decided ((e : List Bool) → length e ≡ 0 → P e)
    go (inl p) = inl (only p)
    go (inr n) = inr (λ all. n (all [] refl))
all_bits (suc n) P d = go (all_bits n (λ e. P (true ∷ e)) (λ e l. d (true ∷ e) (ap suc l))) (all_bits n (λ e. P (false ∷ e)) (λ e l. d (false ∷ e) (ap suc l)))
  where
    both : ((e : List Bool) → length e ≡ n → P (true ∷ e)) → ((e : List Bool) → length e ≡ n → P (false ∷ e)) → (e : List Bool) → length e ≡ suc n → P e
    both p q [] l = absurd (omega arith)
    both p q (true ∷ e) l = p e (omega arith)
    both p q (false ∷ e) l = q e (omega arith)

    go : Decided ((e : List Bool) → length e ≡ n → P (true ∷ e)) → Decided ((e : List Bool) → length e ≡ n → P (false ∷ e)) → Decided ((e : List Bool) → length e ≡ suc n → P e)
    go (inl p) (inl q) = inl (both p q)
    go (inl p) (inr m) = inr (λ all. m (λ e l. all (false ∷ e) (ap suc l)))
    go (inr m) q = inr (λ all. m (λ e l. all (true ∷ e) (ap suc l)))

-- ---- from the end of a list

pub last_of : {A : Type 0} (n : ℕ) (xs : List A) → length xs ≡ suc n → (front : List A) × (x : A) × (xs ≡ front ++ x ∷ []) × (length front ≡ n)
last_of n [] l = absurd (omega arith)
last_of zero (x ∷ []) l = ([], x, refl, refl)
last_of zero (x ∷ y ∷ xs) l = absurd (omega arith)
last_of (suc n) (x ∷ []) l = absurd (omega arith)
last_of (suc n) (x ∷ y ∷ xs) l =
    let r = last_of n (y ∷ xs) (omega arith) in (x ∷ r.0, r.1, ap (λ z. x ∷ z) r.2, omega (arith, r.3))

-- what holds of no elements, and of one more at the end, holds of every list
pub from_end : {A : Type 0} (P : List A → Type 0) → P [] → ((xs : List A) (x : A) → P xs → P (xs ++ x ∷ [])) → (xs : List A) → P xs
from_end {A} P none more xs = go (length xs) xs refl
  where
    go : (n : ℕ) (xs : List A) → length xs ≡ n → P xs
    go zero [] l = none
    go zero (x ∷ xs) l = absurd (omega arith)
    go (suc n) xs l = let r = last_of n xs l in subst P (sym r.2) (more r.0 r.1 (go n r.0 r.3))
