-- Words of the code RS(204,188) (EN 300 744, 4.3.2). A polynomial is the list of its coefficients, that of x^0 first.
use Rattle.std.specs.Prelude.{◌≡◌, ℕ, zero, suc, ◌+◌, ◌<◌, ◌==◌, cond, List, [], ◌∷◌, ◌++◌, map, replicate, reverse}
use Rattle.std.specs.Prelude.{length, bit_xor}
use Rattle.std.specs.List.{AllByRecursion}
use Rattle.gf256.specs.Field.{mul, power}

-- the sum of two polynomials, coefficient by coefficient
abbrev pub plus : List ℕ → List ℕ → List ℕ
plus [] q = q
plus (a ∷ p) [] = a ∷ p
plus (a ∷ p) (b ∷ q) = bit_xor a b ∷ plus p q

-- x + a times a polynomial
abbrev pub with_root : ℕ → List ℕ → List ℕ
with_root a q = plus (map (mul a) q) (0 ∷ q)

-- x + a for each a of a list, times a polynomial
abbrev pub with_roots : List ℕ → List ℕ → List ℕ
with_roots [] q = q
with_roots (a ∷ rs) q = with_root a (with_roots rs q)

-- the powers n - 1 to 0 of λ
abbrev pub first_powers : ℕ → List ℕ
first_powers zero = []
first_powers (suc n) = power n ∷ first_powers n

-- all coefficients are bytes
abbrev pub AreBytes : List ℕ → Type 0
AreBytes = AllByRecursion (λ b. b < 256)

-- 204 bytes, the coefficient of x^203 first. Their polynomial is a multiple of the generator, the product of x + λ^i
-- for i below 16.
pub record IsCodeword (word : List ℕ) : Type 0 where
  pub long : length word ≡ 204
  pub bytes : AreBytes word
  pub factor : List ℕ
  pub factor_bytes : AreBytes factor
  pub is : reverse word ≡ with_roots (first_powers 16) factor

-- the number of positions where two words differ
abbrev pub distance : List ℕ → List ℕ → ℕ
distance [] w = 0
distance (a ∷ v) [] = 0
distance (a ∷ v) (b ∷ w) = cond (a == b) 0 1 + distance v w

-- the generator's coefficients of x^15 down to x^0; that of x^16 is 1
abbrev pub generator_tail : List ℕ
generator_tail = 59 ∷ 13 ∷ 104 ∷ 189 ∷ 68 ∷ 209 ∷ 30 ∷ 8 ∷ 163 ∷ 65 ∷ 41 ∷ 229 ∷ 98 ∷ 50 ∷ 36 ∷ 59 ∷ []

-- The remainder after n steps of long division by the generator, highest coefficients first. Each step subtracts the
-- multiple of the generator that clears the leading coefficient.
unfoldable pub rest_of : ℕ → List ℕ → List ℕ
rest_of zero p = p
rest_of (suc n) [] = []
rest_of (suc n) (a ∷ p) = rest_of n (plus (map (mul a) generator_tail) p)

-- the systematic codeword of a message: the message, then the remainder of the message times x^16
unfoldable pub codeword : List ℕ → List ℕ
codeword message = message ++ rest_of 188 (message ++ replicate 16 0)
