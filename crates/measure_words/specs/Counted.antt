-- The meaning of the counts of words.
use Rattle.std.specs.Prelude.{◌≡◌, ℕ, ◌+◌, ◌-◌, ◌<◌, ◌≤◌, min, List, Option, length, slice_index_or}
use Rattle.std.specs.List.{range_with_len}
use Rattle.spec_words.specs.Words.{numbers}
use Rattle.rs204.specs.Decoded.{Decoded}
use Rattle.outer_chain.specs.declared.slot.WordSlot.{WordSlot}
use Rattle.outer_chain.specs.Receiving.{Receiver, Receives}
use Rattle.outer_chain.specs.Words.{word_at, word_count, IsNear, phase_before}
use Rattle.measure_words.specs.declared.counts.WordSums.{WordSums}
use Rattle.measure_words.specs.Sums.{sums_over}
use Rattle.measure_words.specs.Seen.{WordsState}

-- The first `done` words of these bytes are counted: all of them; those from number `from` on and below `limit`; and
-- those from `limit` on.
pub record HasCounted (outer : Receiver) (all current later : WordSums) (bytes : List ℕ) (done from limit : ℕ) : Type
    0 where
  pub receives : Receives outer bytes
  pub within : done ≤ word_count bytes
  pub near : ℕ → Option (List ℕ)
  pub is_near : (n : ℕ) → n < done → IsNear (word_at bytes n) (near n)
  pub phase : outer.phase ≡ phase_before near done
  pub begun : from ≤ min done limit
  pub all_are : all ≡ sums_over near (word_at bytes) (numbers done)
  pub current_are : current ≡ sums_over near (word_at bytes) (range_with_len from (min done limit - from))
  pub later_are : later ≡ sums_over near (word_at bytes) (range_with_len limit (done - limit))

-- the pending words are those from number `done` on
abbrev pub AreWords : List ℕ → ℕ → List WordSlot → Type 0
AreWords bytes done slots = (i : ℕ) (d : WordSlot) → i < length slots → (slice_index_or slots i d).word
    ≡ word_at bytes (done + i)

-- all words of these bytes are counted or pending
pub record Measures (x : WordsState) (bytes : List ℕ) (done from limit : ℕ) : Type 0 where
  pub counted : HasCounted x.outer x.all x.current x.later bytes done from limit
  pub waiting : done + length x.slots ≡ word_count bytes
  pub words : AreWords bytes done x.slots

-- these words, decoded
abbrev pub AreDecoded : List ℕ → ℕ → List WordSlot → Type 0
AreDecoded bytes done slots = (i : ℕ) (d : WordSlot) → i < length slots
    → Decoded (word_at bytes (done + i)) (slice_index_or slots i d).word (slice_index_or slots i d).outcome

-- the words as received
abbrev pub AreReceived : List ℕ → ℕ → List (List ℕ) → Type 0
AreReceived bytes done received = (i : ℕ) (d : List ℕ) → i < length received → slice_index_or received i d
    ≡ word_at bytes (done + i)
