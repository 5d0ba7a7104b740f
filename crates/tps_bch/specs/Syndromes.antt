-- Syndromes: the remainders of the powers of x, and sums of them. This is how the code finds words of the BCH code.
use Rattle.std.specs.Prelude.{ℕ, Bool, true, false, List, [], ◌∷◌, bit_xor, slice_index}
use Rattle.tps_bch.specs.declared.syndromes.TheConstants.{SYNDROMES}

-- the remainders of x^66 to x^0
unfoldable pub syndromes : List ℕ
syndromes = SYNDROMES

-- the sum of the remainders at the set bits
abbrev pub syndrome_by : List ℕ → List Bool → ℕ
syndrome_by [] w = 0
syndrome_by (s ∷ ss) [] = 0
syndrome_by (s ∷ ss) (true ∷ w) = bit_xor s (syndrome_by ss w)
syndrome_by (s ∷ ss) (false ∷ w) = syndrome_by ss w

-- the syndrome of an error in bit i
abbrev pub syndrome_at : ℕ → ℕ
syndrome_at i = slice_index syndromes i
