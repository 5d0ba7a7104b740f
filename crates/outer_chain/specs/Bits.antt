-- Bytes as bits, most significant bit first.
use Rattle.std.specs.Prelude.{◌≡◌, ℕ, ◌+◌, ◌-◌, ◌/◌, ◌%◌, ◌<◌, Bool, cond, List, [], ◌∷◌, ◌++◌, map}
use Rattle.spec_words.specs.Words.{numbers}
use Rattle.spec_words.specs.Bits.{is_set, spelled}
use Rattle.forney.specs.Values.{values}

-- the value of a bit at its place in a byte
abbrev pub digit : Bool → ℕ → ℕ
digit bit worth = cond bit worth 0

-- the whole bytes of these bits
unfoldable pub bytes_of : List Bool → List ℕ
bytes_of (a ∷ b ∷ c ∷ d ∷ e ∷ f ∷ g ∷ h ∷ rest) = (digit a 128 + digit b 64 + digit c 32 + digit d 16 + digit e 8 +
    digit f 4 + digit g 2 + digit h 1) ∷ bytes_of rest
bytes_of _ = []

-- bit i of a stream of bytes
abbrev pub bit_of_stream : (ℕ → ℕ) → ℕ → Bool
bit_of_stream bytes i = is_set (bytes (i / 8)) (7 - i % 8)

-- the first byte of a list of bits
abbrev pub ByteOfBits : Type 0
ByteOfBits = (byte : ℕ) (rest : List Bool) → byte < 256 → bytes_of (spelled 8 byte ++ rest) ≡ byte ∷ bytes_of rest

-- the first n bits of a stream of bytes contain its first bytes
abbrev pub FirstBits : Type 0
FirstBits = (bytes : ℕ → ℕ) (n : ℕ) → ((p : ℕ) → bytes p < 256) → bytes_of (map (bit_of_stream bytes) (numbers n))
    ≡ values bytes 0 (n / 8)

-- more bits leave the earlier whole bytes unchanged
abbrev pub MoreBits : Type 0
MoreBits = (bits more : List Bool) → (rest : List ℕ) × (bytes_of (bits ++ more) ≡ bytes_of bits ++ rest)
