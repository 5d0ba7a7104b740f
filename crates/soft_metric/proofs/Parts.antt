-- Both parts of cells in lanes of 32 bits.
use Rattle.std.proofs.Common.{◌≡◌, ℕ, zero, suc, ◌/◌, ◌%◌, ◌^◌, List, [], ◌∷◌, length, map, replicate, refl, ap₂, arith, bit_and, w16, w32, Fits}
use Rattle.std.specs.Simd.Lanes.{zip2, Each1}
use Rattle.std.proofs.lemmas.Nat.{and_mask}

-- the lower halves
pub lower_fit : (cs : List ℕ) (n : ℕ) → Each1 (Fits w16) (zip2 bit_and cs (replicate n 65535))
lower_fit [] n = tt
lower_fit (c ∷ cs) zero = tt
lower_fit (c ∷ cs) (suc n) = (record { fits = omega (arith, and_mask c 16) }, lower_fit cs n)

pub lower_are : (cs : List ℕ) (n : ℕ) → length cs ≡ n → map (λ a. a) (zip2 bit_and cs (replicate n 65535)) ≡ map (λ c. c % 65536) cs
lower_are [] n e = refl
lower_are (c ∷ cs) zero e = absurd (omega (arith, e))
lower_are (c ∷ cs) (suc n) e = ap₂ (λ (z : ℕ) (zs : List ℕ). z ∷ zs) (and_mask c 16) (lower_are cs n (omega (arith, e)))

-- the upper halves
pub upper_fit : (cs : List ℕ) (n : ℕ) → Each1 (Fits w32) cs → Each1 (Fits w16) (zip2 (λ a b. a / 2 ^ b) cs (replicate n 16))
upper_fit [] n f = tt
upper_fit (c ∷ cs) zero f = tt
upper_fit (c ∷ cs) (suc n) f = (record { fits = omega (arith, f.0.fits) }, upper_fit cs n f.1)

pub upper_are : (cs : List ℕ) (n : ℕ) → length cs ≡ n → map (λ a. a) (zip2 (λ a b. a / 2 ^ b) cs (replicate n 16)) ≡ map (λ c. c / 65536) cs
upper_are [] n e = refl
upper_are (c ∷ cs) zero e = absurd (omega (arith, e))
upper_are (c ∷ cs) (suc n) e = ap₂ (λ (z : ℕ) (zs : List ℕ). z ∷ zs) refl (upper_are cs n (omega (arith, e)))
