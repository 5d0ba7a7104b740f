-- The output of a receiver whose words are decoded in parallel and finished in order.
use Rattle.std.specs.Prelude.{◌≡◌, ℕ, ◌+◌, ◌<◌, ◌≤◌, Bool, true, false, not, cond, Option, Some, None, List, [], ◌∷◌}
use Rattle.std.specs.Prelude.{◌++◌}
use Rattle.rs204.specs.Decoded.{Decoded}
use Rattle.rs204.specs.declared.outcome.Outcome.{Outcome}
use Rattle.rs204.specs.declared.outcome.Outcome.TheVariants.{Clean, Corrected, Bad}
use Rattle.outer_chain.specs.Words.{word_at, word_count, IsNear, phase_of, phase_before, given_packet, packets_to}
use Rattle.outer_chain.specs.Words.{Packets, Tally, Tallies, tally_to, has}
use Rattle.outer_chain.specs.Nears.{near_of}
use Rattle.outer_chain.specs.Receiving.{Receiver, Receives}

-- the counts of no words
abbrev pub no_words : Tally
no_words = record { words = 0; clean = 0; corrected = 0; bad = 0; unphased = 0 }

-- the word was a codeword
abbrev pub is_clean_outcome : Outcome → Bool
is_clean_outcome Clean = true
is_clean_outcome (Corrected n) = false
is_clean_outcome Bad = false

-- the word was corrected
abbrev pub is_corrected_outcome : Outcome → Bool
is_corrected_outcome Clean = false
is_corrected_outcome (Corrected n) = true
is_corrected_outcome Bad = false

-- the word has no nearest codeword
abbrev pub is_bad_outcome : Outcome → Bool
is_bad_outcome Clean = false
is_bad_outcome (Corrected n) = false
is_bad_outcome Bad = true

-- the counts after one more word of this outcome and phase
abbrev pub counted : Tally → Outcome → Option ℕ → Tally
counted tally outcome phase = record {
  words = tally.words + 1;
  clean = cond (is_clean_outcome outcome) 1 0 + tally.clean;
  corrected = cond (is_corrected_outcome outcome) 1 0 + tally.corrected;
  bad = cond (is_bad_outcome outcome) 1 0 + tally.bad;
  unphased = cond (not (has phase)) 1 0 + tally.unphased;
}

-- the bytes of a packet, if there is one
abbrev pub bytes_given : Option (List ℕ) → List ℕ
bytes_given None = []
bytes_given (Some packet) = packet

-- A receiver after these bytes that has finished the first `done` words: what it wrote for them, and their counts. The
-- words after them are still waiting.
pub record Finished (receiver : Receiver) (bytes out : List ℕ) (tally : Tally) (done : ℕ) : Type 0 where
  pub receives : Receives receiver bytes
  pub within : done ≤ word_count bytes
  pub near : ℕ → Option (List ℕ)
  pub is_near : (n : ℕ) → n < done → IsNear (word_at bytes n) (near n)
  pub phase : receiver.phase ≡ phase_before near done
  pub is : out ≡ packets_to near (word_at bytes) done
  pub tally_is : tally ≡ tally_to near (word_at bytes) done

-- at the start
abbrev pub NothingFinished : Type 0
NothingFinished = (receiver : Receiver) → Receives receiver [] → receiver.phase ≡ None
    → Finished receiver [] [] no_words 0

-- one more byte, whether it ends a word or not
abbrev pub TookByte : Type 0
TookByte = (old new : Receiver) (bytes out : List ℕ) (tally : Tally) (done byte : ℕ) → Finished old bytes out tally done
    → Receives new (bytes ++ byte ∷ []) → new.phase ≡ old.phase → Finished new (bytes ++ byte ∷ []) out tally done

-- more bytes, whether words end with them or not
abbrev pub TookBytes : Type 0
TookBytes = (old new : Receiver) (bytes more out : List ℕ) (tally : Tally) (done : ℕ)
    → Finished old bytes out tally done
    → Receives new (bytes ++ more) → new.phase ≡ old.phase → Finished new (bytes ++ more) out tally done

-- the next word is finished
abbrev pub FinishedWord : Type 0
FinishedWord = (old new : Receiver) (bytes out after decoded : List ℕ) (tally : Tally) (outcome : Outcome) (done : ℕ)
    → Finished old bytes out tally done → done < word_count bytes → Receives new bytes
    → Decoded (word_at bytes done) decoded outcome → new.phase ≡ phase_of (near_of outcome decoded) old.phase
    → after ≡ out ++ bytes_given (given_packet new.phase decoded (near_of outcome decoded))
    → Finished new bytes after (counted tally outcome new.phase) (done + 1)

-- all words are finished
abbrev pub AllFinished : Type 0
AllFinished = (receiver : Receiver) (bytes out : List ℕ) (tally : Tally)
    → Finished receiver bytes out tally (word_count bytes) → Packets bytes out × Tallies bytes tally

-- more bytes leave a waiting word unchanged
abbrev pub WordStays : Type 0
WordStays = (bytes more : List ℕ) (n : ℕ) → n < word_count bytes → word_at (bytes ++ more) n ≡ word_at bytes n
