-- Registers as numbers and as lists of bits.
use Rattle.std.proofs.Common.{◌≡◌, ℕ, zero, suc, ◌^◌, ◌<◌, ◌≤◌, Bool, true, false, ◌&&◌, List, [], ◌∷◌, length, ◌⊎◌, inl, inr, refl, sym, subst, arith, eqb}
use Rattle.std.proofs.lemmas.Bool.{cases_lt, eqb-true, and_parts, agree_below, agree_below_at}
use Rattle.code_paths.specs.States.{register}
use Rattle.spec_words.specs.Bits.{is_set}
use Rattle.code_paths.specs.States.{even_of, odd_of}
use Rattle.code_paths.specs.Trial.{weight}
use Rattle.code_paths.proofs.Order.{weight_same, weight-lt}

abbrev pub all_below : (ℕ → Bool) → ℕ → Bool
all_below t zero = true
all_below t (suc n) = t n && all_below t n

pub all_below_at : (t : ℕ → Bool) (n k : ℕ) → all_below t n ≡ true → k < n → t k ≡ true
all_below_at t zero k h l = absurd (omega arith)
all_below_at t (suc n) k h l = go (cases_lt k n) (all_below_at t n k (and_parts _ _ h).1)
  where
    go : (k < n) ⊎ (n ≤ k) → (k < n → t k ≡ true) → t k ≡ true
    go (inl m) f = f m
    go (inr m) f = let e : k ≡ n = omega arith in rw e (and_parts _ _ h).0

pub number_of : (n : ℕ) → n < 64 → weight (register n) ≡ n
number_of n l = eqb-true _ _ (all_below_at (λ n. eqb (weight (register n)) n) 64 n refl l)

-- all but the newest bit
abbrev pub older : ℕ → List Bool
older n = is_set n 0 ∷ is_set n 1 ∷ is_set n 2 ∷ is_set n 3 ∷ is_set n 4 ∷ []

-- five bits, by a table of 64
five : (f : ℕ → ℕ) (b : Bool) (n : ℕ) → n < 64
    → agree_below (λ n. is_set (f n) 0) (λ n. b) 64 ≡ true
    → agree_below (λ n. is_set (f n) 1) (λ n. is_set n 0) 64 ≡ true
    → agree_below (λ n. is_set (f n) 2) (λ n. is_set n 1) 64 ≡ true
    → agree_below (λ n. is_set (f n) 3) (λ n. is_set n 2) 64 ≡ true
    → agree_below (λ n. is_set (f n) 4) (λ n. is_set n 3) 64 ≡ true
    → agree_below (λ n. is_set (f n) 5) (λ n. is_set n 4) 64 ≡ true
    → register (f n) ≡ b ∷ older n
five f b n l t0 t1 t2 t3 t4 t5 =
    let e0 : is_set (f n) 0 ≡ b = agree_below_at (λ n. is_set (f n) 0) (λ n. b) 64 n t0 l in
    let e1 : is_set (f n) 1 ≡ is_set n 0 = agree_below_at (λ n. is_set (f n) 1) (λ n. is_set n 0) 64 n t1 l in
    let e2 : is_set (f n) 2 ≡ is_set n 1 = agree_below_at (λ n. is_set (f n) 2) (λ n. is_set n 1) 64 n t2 l in
    let e3 : is_set (f n) 3 ≡ is_set n 2 = agree_below_at (λ n. is_set (f n) 3) (λ n. is_set n 2) 64 n t3 l in
    let e4 : is_set (f n) 4 ≡ is_set n 3 = agree_below_at (λ n. is_set (f n) 4) (λ n. is_set n 3) 64 n t4 l in
    let e5 : is_set (f n) 5 ≡ is_set n 4 = agree_below_at (λ n. is_set (f n) 5) (λ n. is_set n 4) 64 n t5 l in
    cc

pub even_register : (n : ℕ) → n < 64 → register (even_of n) ≡ false ∷ older n
even_register n l = five even_of false n l refl refl refl refl refl refl

pub odd_register : (n : ℕ) → n < 64 → register (odd_of n) ≡ true ∷ older n
odd_register n l = five odd_of true n l refl refl refl refl refl refl

-- each list of six bits is a register
pub record IsRegister (e : List Bool) : Type 0 where
  pub number : ℕ
  pub below : number < 64
  pub is : register number ≡ e

pub register_from : (e : List Bool) → length e ≡ 6 → IsRegister e
register_from e l =
    let w : weight e < 64 = subst (λ k. weight e < 2 ^ k) l (weight-lt e) in
    record { number = weight e; below = w; is = weight_same (register (weight e)) e (sym l) (number_of (weight e) w) }
