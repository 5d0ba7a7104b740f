-- The margins of bytes (this project's profile).
use Rattle.std.specs.Prelude.{ℕ, ◌+◌, ◌*◌, ◌/◌, min, List, length, slice_index}
use Rattle.forney.specs.Values.{values}
use Rattle.outer_chain.specs.Words.{word_at}

-- the margin of byte k of a stream, from the margins of its bits: the least of its eight
abbrev pub byte_margin : List ℕ → ℕ → ℕ
byte_margin ms k =
    min (slice_index ms (8 * k)) (min (slice_index ms (8 * k + 1))
    (min (slice_index ms (8 * k + 2)) (min (slice_index ms (8 * k + 3))
    (min (slice_index ms (8 * k + 4)) (min (slice_index ms (8 * k + 5))
    (min (slice_index ms (8 * k + 6)) (slice_index ms (8 * k + 7))))))))

-- the margins of the whole bytes of these bits
unfoldable pub byte_margins : List ℕ → List ℕ
byte_margins ms = values (byte_margin ms) 0 (length ms / 8)

-- The margins of the bytes of received word n. They pass through the deinterleaver like the bytes, and are 0 for the
-- zeros at its start (EN 300 744, 4.3.2, inverted).
abbrev pub margins_at : List ℕ → ℕ → List ℕ
margins_at margins n = word_at margins n
