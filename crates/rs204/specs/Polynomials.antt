-- Polynomials and their values, for decoding. A polynomial is the list of its coefficients, that of x^0 first.
use Rattle.std.specs.Prelude.{◌≡◌, ℕ, suc, ◌+◌, ◌==◌, cond, List, [], ◌∷◌, bit_xor}
use Rattle.std.specs.List.{AllByRecursion}
use Rattle.gf256.specs.Field.{mul}

-- the value of a polynomial
abbrev pub value_at : ℕ → List ℕ → ℕ
value_at x [] = 0
value_at x (a ∷ p) = bit_xor a (mul x (value_at x p))

-- the sum of the coefficients, each times the value of s at the next index
abbrev pub along : List ℕ → (ℕ → ℕ) → ℕ → ℕ
along [] s i = 0
along (c ∷ cs) s i = bit_xor (mul c (s i)) (along cs s (suc i))

-- some coefficient is nonzero
abbrev pub IsNonzero : List ℕ → Type 0
IsNonzero p = AllByRecursion (λ a. a ≡ 0) p → ⊥

-- the number of nonzero coefficients
abbrev pub weight : List ℕ → ℕ
weight [] = 0
weight (a ∷ p) = cond (a == 0) 0 1 + weight p
