-- The position of a coded bit in the labels of its symbol, before symbol interleaving (EN 300 744, 4.3.4.1).
use Rattle.std.specs.Prelude.{◌≡◌, ℕ, ◌+◌, ◌-◌, ◌*◌, ◌/◌, ◌%◌, ◌<◌, ◌==◌, nat_lt, ◌&&◌, ◌||◌, Bool, IsTrue}
use Rattle.std.specs.Prelude.{if◌then◌else◌, [], ◌∷◌, slice_index}
use Rattle.spec_words.specs.Words.{first_below}
use Rattle.mode_set.specs.Kept.{is_flat, is_qpsk}
use Rattle.mode_set.specs.StreamTable.{has_stream, width}
use Rattle.mode_set.specs.declared.modes.Shape.{Shape}
use Rattle.mode_set.specs.declared.modes.Hierarchy.{Hierarchy}
use Rattle.mode_set.specs.declared.modes.Stream.{Stream}
use Rattle.mode_set.specs.declared.modes.Stream.TheVariants.{Hp, Lp}

-- the first bit of a label that carries a stream
abbrev pub first_place : Hierarchy → Stream → ℕ
first_place h Hp = 0
first_place h Lp = if is_flat h then 0 else 2

-- the offsets of the six bit interleavers
abbrev pub offset : ℕ → ℕ
offset e = slice_index (0 ∷ 63 ∷ 105 ∷ 42 ∷ 21 ∷ 84 ∷ []) e

-- demultiplexing: the first half of every n coded bits goes to the even substreams in order, the second half to the odd
-- ones; substream e is bit e of the labels
abbrev pub place_in_label : Shape → Hierarchy → Stream → ℕ → ℕ
place_in_label s h σ d = let n = width s h σ in d % n / (n / 2) + 2 * (d % n % (n / 2)) + first_place h σ

-- bit interleaving: in each block of 126 bits of a substream, bit (w + offset) modulo 126 goes to word w
abbrev pub word_of_bit : Shape → Hierarchy → Stream → ℕ → ℕ
word_of_bit s h σ d = let i = d / width s h σ in 126 * (i / 126) + (i + 126 - offset (place_in_label s h σ d)) % 126

-- the stream carried by bit e of each label
abbrev pub stream_at : Hierarchy → ℕ → Stream
stream_at h e = if is_flat h || nat_lt e 2 then Hp else Lp

-- whether coded bit d of a stream is bit e of word w
abbrev pub stands_at : Shape → Hierarchy → Stream → ℕ → ℕ → ℕ → Bool
stands_at s h σ e w d = (place_in_label s h σ d == e) && (word_of_bit s h σ d == w)

-- QPSK has no hierarchy, and the stream exists
pub record IsSent (s : Shape) (h : Hierarchy) (σ : Stream) : Type 0 where
  pub qpsk : IsTrue (is_qpsk s) → IsTrue (is_flat h)
  pub exists : IsTrue (has_stream h σ)

-- two coded bits at the same bit of the same word are the same
abbrev pub EachPlaceHasOneBit : Type 0
EachPlaceHasOneBit = (s : Shape) (h : Hierarchy) (σ : Stream) (c d : ℕ) → IsSent s h σ
    → place_in_label s h σ c ≡ place_in_label s h σ d → word_of_bit s h σ c ≡ word_of_bit s h σ d → c ≡ d

-- the first of n coded bits at the position of bit d is bit d
abbrev pub EachBitIsFound : Type 0
EachBitIsFound = (s : Shape) (h : Hierarchy) (σ : Stream) (n d : ℕ) → IsSent s h σ → d < n
    → first_below n (stands_at s h σ (place_in_label s h σ d) (word_of_bit s h σ d)) ≡ d

-- a[e, w] = b[e, (w + offset e) mod 126], where b is the substream and a the interleaved one
abbrev pub BlocksAreRotated : Type 0
BlocksAreRotated = (s : Shape) (h : Hierarchy) (σ : Stream) (d : ℕ) →
    (word_of_bit s h σ d + offset (place_in_label s h σ d)) % 126 ≡ d / width s h σ % 126
