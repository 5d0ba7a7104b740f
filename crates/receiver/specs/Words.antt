-- From the bits of a stream to words, and from words to packets.
use Rattle.std.specs.Prelude.{◌≡◌, ℕ, ◌+◌, ◌<◌, ◌≤◌, Bool, not, cond, List, ◌++◌, All, length, slice_index_or}
use Rattle.bit_pack.specs.Queue.{bits_of_bytes}
use Rattle.rs204.specs.Decoded.{Decoded}
use Rattle.rs204.specs.declared.outcome.Outcome.{Outcome}
use Rattle.outer_chain.specs.declared.slot.WordSlot.{WordSlot}
use Rattle.outer_chain.specs.Receiving.{Receiver}
use Rattle.outer_chain.specs.Running.{Finished, is_clean_outcome, is_corrected_outcome, is_bad_outcome}
use Rattle.outer_chain.specs.Words.{Tally, word_at, word_count}
use Rattle.rx_report.specs.declared.counts.StreamCounts.{StreamCounts}
use Rattle.reception.specs.Lines.{stream_counts}

-- the slots hold the received words from number `from` on
abbrev pub AreWords : List ℕ → ℕ → List WordSlot → Type 0
AreWords bytes from slots = (i : ℕ) (d : WordSlot) → i < length slots → (slice_index_or slots i d).word
    ≡ word_at bytes (from + i)

-- these words, decoded
abbrev pub AreDecoded : List ℕ → ℕ → List WordSlot → Type 0
AreDecoded bytes from slots = (i : ℕ) (d : WordSlot) → i < length slots
    → Decoded (word_at bytes (from + i)) (slice_index_or slots i d).word (slice_index_or slots i d).outcome

-- each slot is decoded
pub record DecodesAll (old new : List WordSlot) : Type 0 where
  pub long : length new ≡ length old
  pub each : (i : ℕ) (d : WordSlot) → i < length old → Decoded (slice_index_or old i d).word (slice_index_or new i
      d).word (slice_index_or new i d).outcome

-- an outer receiver that has had some bytes and finished all their words
pub record Started (outer : Receiver) : Type 0 where
  pub bytes : List ℕ
  pub given : List ℕ
  pub tally : Tally
  pub finished : Finished outer bytes given tally (word_count bytes)

-- more bytes; the slots still hold the unfinished words
pub record Took (outer : Receiver) (more bytes given : List ℕ) (tally : Tally) (done : ℕ)
    (old new : List WordSlot) : Type 0 where
  pub finished : Finished outer (bytes ++ more) given tally done
  pub all : done + length old ≡ word_count bytes → done + length new ≡ word_count (bytes ++ more)
  pub words : done + length old ≡ word_count bytes → AreWords bytes done old → AreWords (bytes ++ more) done new

-- the same, if these are the first k bytes of the pending bits
pub record Passed (wait left : List Bool) (k : ℕ) (outer : Receiver) (bytes given : List ℕ) (tally : Tally) (done : ℕ)
    (old new : List WordSlot) : Type 0 where
  pub more : List ℕ
  pub long : length more ≡ k
  pub small : All (λ b. b < 256) more
  pub bits : wait ≡ bits_of_bytes more ++ left
  pub took : Took outer more bytes given tally done old new

-- k bytes of the pending bits were taken
pub record Collected (wait : List Bool) (bytes given : List ℕ) (tally : Tally) (done k : ℕ) (outer : Receiver)
    (left : List Bool) (slots : List WordSlot) : Type 0 where
  pub more : List ℕ
  pub long : length more ≡ k
  pub bits : wait ≡ bits_of_bytes more ++ left
  pub small : All (λ b. b < 256) more
  pub finished : Finished outer (bytes ++ more) given tally done
  pub all : done + length slots ≡ word_count (bytes ++ more)
  pub words : AreWords (bytes ++ more) done slots

-- words were finished up to number `done`, and their packets written after `old`
pub record Wrote (outer : Receiver) (bytes given : List ℕ) (done : ℕ) (old new : List ℕ) (before after : StreamCounts)
    (tally : Tally) : Type 0 where
  pub written : List ℕ
  pub is : new ≡ old ++ written
  pub now : Tally
  pub finished : Finished outer bytes (given ++ written) now done
  pub counts : (unmerged : ℕ) → before ≡ stream_counts tally unmerged → after ≡ stream_counts now unmerged

-- the result for the pending bits: whole bytes were taken, all words are finished, and the packets are written
pub record Gives (wait left : List Bool) (outer : Receiver) (bytes given : List ℕ) (tally : Tally) (old new : List ℕ)
    (before after : StreamCounts) : Type 0 where
  pub more : List ℕ
  pub bits : wait ≡ bits_of_bytes more ++ left
  pub small : All (λ b. b < 256) more
  pub written : List ℕ
  pub is : new ≡ old ++ written
  pub now : Tally
  pub finished : Finished outer (bytes ++ more) (given ++ written) now (word_count (bytes ++ more))
  pub counts : (unmerged : ℕ) → before ≡ stream_counts tally unmerged → after ≡ stream_counts now unmerged

-- the counts after one more word of this outcome, with a phase or without
abbrev pub counted : StreamCounts → Outcome → Bool → StreamCounts
counted counts outcome phased = record {
  words = counts.words + 1;
  clean = counts.clean + cond (is_clean_outcome outcome) 1 0;
  corrected = counts.corrected + cond (is_corrected_outcome outcome) 1 0;
  bad = counts.bad + cond (is_bad_outcome outcome) 1 0;
  unphased = counts.unphased + cond (not phased) 1 0;
  unmerged = counts.unmerged;
}

-- no count is above n
pub record AreFew (counts : StreamCounts) (n : ℕ) : Type 0 where
  pub words : counts.words ≤ n
  pub clean : counts.clean ≤ n
  pub corrected : counts.corrected ≤ n
  pub bad : counts.bad ≤ n
  pub unphased : counts.unphased ≤ n
  pub unmerged : counts.unmerged ≤ n
