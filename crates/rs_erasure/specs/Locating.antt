-- The results of the steps of erasure decoding. A polynomial is the list of its coefficients, that of x^0 first.
use Rattle.std.specs.Prelude.{◌≡◌, ℕ, suc, ◌-◌, ◌<◌, List, [], ◌∷◌, slice_set, bit_xor}
use Rattle.gf256.specs.Field.{mul, power}
use Rattle.rs204.specs.Codes.{AreBytes}
use Rattle.rs204.specs.Polynomials.{value_at, IsNonzero}

-- a word with 0 in its erased positions
abbrev pub blanked : List ℕ → List ℕ → List ℕ
blanked [] word = word
blanked (e ∷ es) word = blanked es (slice_set word e 0)

-- the power of λ for a position
abbrev pub place_power : ℕ → ℕ
place_power place = power (203 - place)

-- a sequence with the contributions of positions removed one by one
abbrev pub lowered : List ℕ → (ℕ → ℕ) → ℕ → ℕ
lowered [] s i = s i
lowered (x ∷ xs) s i = lowered xs (λ k. bit_xor (s (suc k)) (mul x (s k))) i

-- a value times (y + x) for each x of a list
abbrev pub times_all : List ℕ → ℕ → ℕ → ℕ
times_all [] y v = v
times_all (x ∷ xs) y v = times_all xs y (mul v (bit_xor y x))

-- a polynomial times x + root for each root, given by its values. It is zero only if the polynomial is.
pub record IsProduct (roots polynomial product : List ℕ) : Type 0 where
  pub values : (x : ℕ) → x < 256 → value_at x product ≡ times_all roots x (value_at x polynomial)
  pub bytes : AreBytes product
  pub some : IsNonzero polynomial → IsNonzero product
