-- The layout of a queue of bits: some bits of a first byte, whole bytes in a ring, some bits of a last byte.
use Rattle.std.specs.Prelude.{ℕ, ◌+◌, ◌*◌, ◌<◌, ◌≤◌, Bool, List, [], ◌∷◌, ◌++◌, take, drop}
use Rattle.spec_words.specs.Bits.{spelled}

-- the bits of bytes, each most significant bit first
abbrev pub bits_of_bytes : List ℕ → List Bool
bits_of_bytes [] = []
bits_of_bytes (byte ∷ bytes) = spelled 8 byte ++ bits_of_bytes bytes

-- `count` bytes of a ring from index `first` on, wrapping at the end
abbrev pub ring : List ℕ → ℕ → ℕ → List ℕ
ring bytes first count = take count (drop first bytes ++ bytes)

-- the bits in the queue
abbrev pub queue : List ℕ → ℕ → ℕ → ℕ → ℕ → ℕ → ℕ → List Bool
queue bytes first count front front_len back back_len =
    spelled front_len front ++ (bits_of_bytes (ring bytes first count) ++ spelled back_len back)

-- the queue fits in a ring of n bytes, 65536 at most; its parts outside the ring are shorter than a byte
pub record IsSized (n first count front_len back_len : ℕ) : Type 0 where
  pub few : n ≤ 65536
  pub first_within : first ≤ n
  pub front_short : front_len < 8
  pub back_short : back_len < 8
  pub within : front_len + 8 * count + back_len ≤ 8 * n
