-- Bits, and numbers as lists of bits.
use Rattle.std.specs.Prelude.{ℕ, zero, suc, ◌==◌, Bool, false, List, [], ◌∷◌, get_or, map, not}
use Rattle.std.specs.Bool.{beq}
use Rattle.std.specs.Int.{bit_at}

-- bit k of a list, 0 past its end
abbrev pub bit : List Bool → ℕ → Bool
bit p k = get_or p k false

-- the sum of two bits modulo 2, in the form of the code's `^`
abbrev pub xor : Bool → Bool → Bool
xor a b = not (beq a b)

-- bit i of a number; bit 0 is the least significant
abbrev pub is_set : ℕ → ℕ → Bool
is_set n i = bit_at n i == 1

-- the lowest n bits of a number, most significant first
abbrev pub spelled : ℕ → ℕ → List Bool
spelled zero x = []
spelled (suc n) x = is_set x n ∷ spelled n x

-- the bits of a text of zeros and ones
abbrev pub digits : List ℕ → List Bool
digits text = map (λ c. c == 49) text
