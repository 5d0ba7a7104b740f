-- The BCH(67,53) code of the TPS bits, shortened from (127,113) (EN 300 744, 4.6.2.11).
use Rattle.std.specs.Prelude.{◌≡◌, ◌≢◌, ℕ, zero, suc, ◌+◌, ◌<◌, ◌≤◌, ◌&&◌, Bool, false, if◌then◌else◌, List, [], ◌∷◌}
use Rattle.std.specs.Prelude.{◌++◌, map, drop, length, replicate, codes}
use Rattle.spec_words.specs.Bits.{xor, digits}

-- x^14 + x^9 + x^8 + x^6 + x^5 + x^4 + x^2 + x + 1, highest coefficient first
abbrev pub bch_generator : List Bool
bch_generator = digits (codes "100001101110111")

-- the sum of two polynomials, coefficient by coefficient; past the end of the shorter list the longer one is kept
abbrev pub xor_bits : List Bool → List Bool → List Bool
xor_bits [] q = q
xor_bits (a ∷ p) [] = a ∷ p
xor_bits (a ∷ p) (b ∷ q) = xor a b ∷ xor_bits p q

-- a factor times the generator, both highest coefficient first
unfoldable pub bch_multiple : List Bool → List Bool
bch_multiple [] = replicate 14 false
bch_multiple (a ∷ f) = xor_bits (map (λ g. a && g) bch_generator) (false ∷ bch_multiple f)

-- s1 to s67, the coefficients of x^66 to x^0 of a multiple of the generator
pub record IsTpsWord (word : List Bool) : Type 0 where
  pub long : length word ≡ 67
  pub factor : List Bool
  pub is : word ≡ bch_multiple factor

-- the remainder after n steps of division by the generator, highest coefficient first
abbrev pub bch_rest : ℕ → List Bool → List Bool
bch_rest zero p = p
bch_rest (suc n) [] = []
bch_rest (suc n) (a ∷ p) = bch_rest n (xor_bits (map (λ g. a && g) (drop 1 bch_generator)) p)

-- s54 to s67 from s1 to s53: the remainder of x^14 times their polynomial
unfoldable pub tps_parity : List Bool → List Bool
tps_parity info = bch_rest 53 (info ++ replicate 14 false)

-- the number of positions where two lists of bits differ
abbrev pub bit_distance : List Bool → List Bool → ℕ
bit_distance [] w = 0
bit_distance (a ∷ v) [] = 0
bit_distance (a ∷ v) (b ∷ w) = (if xor a b then 1 else 0) + bit_distance v w

-- two different words of the code differ in at least five bits
abbrev pub AreApart : Type 0
AreApart = (v w : List Bool) → IsTpsWord v → IsTpsWord w → v ≢ w → 5 ≤ bit_distance v w

-- no word of the code is within distance 2
abbrev pub IsFar : List Bool → Type 0
IsFar bits = (w : List Bool) → IsTpsWord w → 2 < bit_distance bits w

-- the new bits are a word of the code at distance n from the old ones, n at most 2
pub record IsCorrected (old new : List Bool) (n : ℕ) : Type 0 where
  pub is_word : IsTpsWord new
  pub distance : bit_distance old new ≡ n
  pub near : n ≤ 2
