-- A six-bit register as a number, as decoders count their 64 states: bit 5 is the newest, bit 0 the oldest.
use Rattle.std.specs.Prelude.{ℕ, ◌+◌, ◌*◌, ◌%◌, Bool, cond, List, [], ◌∷◌}
use Rattle.spec_words.specs.Bits.{is_set}

-- the bits of a state, oldest first
abbrev pub register : ℕ → List Bool
register s = is_set s 0 ∷ is_set s 1 ∷ is_set s 2 ∷ is_set s 3 ∷ is_set s 4 ∷ is_set s 5 ∷ []

-- the even predecessor of a state, whose oldest bit is 0
abbrev pub even_of : ℕ → ℕ
even_of n = 2 * (n % 32)

-- the odd predecessor of a state, whose oldest bit is 1
abbrev pub odd_of : ℕ → ℕ
odd_of n = 2 * (n % 32) + 1

-- the predecessor chosen by a decision word: bit n selects the odd one for state n
abbrev pub before : ℕ → ℕ → ℕ
before word n = cond (is_set word n) (odd_of n) (even_of n)
