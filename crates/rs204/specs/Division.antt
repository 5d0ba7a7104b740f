-- The register for division by the generator.
use Rattle.std.specs.Prelude.{◌≡◌, ℕ, ◌+◌, ◌*◌, List, [], ◌∷◌, ◌++◌, length, map, drop, slice_index}
use Rattle.gf256.specs.Field.{mul}
use Rattle.rs204.specs.Codes.{AreBytes, plus, generator_tail}

-- the number of a list of bytes, least significant first
unfoldable pub number : List ℕ → ℕ
number [] = 0
number (b ∷ bs) = b + 256 * number bs

-- a number that holds sixteen bytes
pub record Holds (register : ℕ) (bytes : List ℕ) : Type 0 where
  pub long : length bytes ≡ 16
  pub bytes_are : AreBytes bytes
  pub is : register ≡ number bytes

-- the coefficients after one step of the division: the leading one is cleared by a multiple of the generator, and the
-- next one of the word is shifted in
abbrev pub divided : List ℕ → ℕ → List ℕ
divided bytes next = plus (map (mul (slice_index bytes 0)) generator_tail) (drop 1 bytes ++ next ∷ [])
