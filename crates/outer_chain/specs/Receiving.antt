-- The state of an outer-code receiver.
use Rattle.std.specs.Prelude.{◌≡◌, ℕ, ◌+◌, ◌-◌, ◌*◌, ◌/◌, ◌%◌, ◌<◌, ◌≤◌, Option, List, length, slice_index}
use Rattle.rs204.specs.declared.outcome.Outcome.TheVariants.{Bad}
use Rattle.outer_chain.specs.declared.slot.WordSlot.{WordSlot}
use Rattle.outer_chain.specs.Words.{word_at, word_count}

-- where byte p of the stream is kept among twelve words: at p mod 204 in the word that ends 11 - p mod 12 words after
-- its own
abbrev pub place_of : ℕ → ℕ
place_of p = 204 * ((p / 204 + 11 - p % 12) % 12) + p % 204

-- a receiver: the twelve words being filled, the place of the next byte in them, the start-up words still to come, and
-- the phase of the last finished word
pub record Receiver : Type 0 where
  pub words : List ℕ
  pub next : ℕ
  pub start : ℕ
  pub phase : Option ℕ

-- the bytes end a word after the eleven of the start-up
abbrev pub EndsWord : List ℕ → Type 0
EndsWord bytes = (length bytes % 204 ≡ 0) × (0 < word_count bytes)

-- the slot of received word n before decoding
abbrev pub undecoded : List ℕ → ℕ → WordSlot
undecoded bytes n = record { word = word_at bytes n; outcome = Bad }

-- a receiver after these interleaved bytes: its words hold the last 2448 of them
pub record Receives (receiver : Receiver) (bytes : List ℕ) : Type 0 where
  pub twelve : length receiver.words ≡ 2448
  pub next : receiver.next ≡ place_of (length bytes)
  pub holds : (p : ℕ) → p < length bytes → length bytes ≤ p + 2448 → slice_index receiver.words (place_of p)
      ≡ slice_index bytes p
  pub start : receiver.start ≡ 11 - length bytes / 204

-- the twelve words and the place of the next byte after these interleaved bytes
pub record Holds (words : List ℕ) (next : ℕ) (bytes : List ℕ) : Type 0 where
  pub twelve : length words ≡ 2448
  pub next_is : next ≡ place_of (length bytes)
  pub holds : (p : ℕ) → p < length bytes → length bytes ≤ p + 2448 → slice_index words (place_of p)
      ≡ slice_index bytes p
