-- The state of an outer-code receiver with rescue.
use Rattle.std.specs.Prelude.{◌≡◌, ℕ, ◌<◌, ◌++◌, List, length}
use Rattle.outer_chain.specs.Receiving.{Receiver, Receives}
use Rattle.outer_chain.specs.Words.{word_at, word_count, phase_before, packets_to}
use Rattle.rescue_words.specs.ByteMargins.{margins_at}
use Rattle.rescue_words.specs.Recovery.{Recovery, IsRecovery}
use Rattle.rescue_words.specs.Rescued.{RescueTally, codewords, tally_to}
use Rattle.rescue_words.specs.Carrying.{MarginState, Holds}
use Rattle.rescue_words.specs.declared.counts.RescueCounts.{RescueCounts}

-- a receiver of the outer code, the margins of the unfinished word, and the counts
pub record WordsState : Type 0 where
  pub outer : Receiver
  pub margins : MarginState
  pub counts : RescueCounts

-- the counts of this tally
abbrev pub counts_of : RescueTally → RescueCounts
counts_of t = record {
  words = t.words;
  clean = t.clean;
  corrected = t.corrected;
  rescued = t.rescued;
  bad
      = t.bad;
  unphased = t.unphased;
}

-- It has received these interleaved bytes and as many margins, and has finished all their words: what it wrote for
-- them, and their counts.
pub record Stands (s : WordsState) (bytes margins out : List ℕ) (tally : RescueTally) : Type 0 where
  pub receives : Receives s.outer bytes
  pub holds : Holds s.margins margins
  pub as_many : length margins ≡ length bytes
  pub recovery : ℕ → Recovery
  pub is_recovery : (n : ℕ) → n < word_count bytes → IsRecovery (word_at bytes n) (margins_at margins n) (recovery n)
  pub phase : s.outer.phase ≡ phase_before (codewords recovery) (word_count bytes)
  pub packets : out ≡ packets_to (codewords recovery) (word_at bytes) (word_count bytes)
  pub tally_is : tally ≡ tally_to recovery (word_at bytes) (word_count bytes)
  pub counts : s.counts ≡ counts_of tally

-- it has received more; what it wrote follows `old`
pub record Took (s : WordsState) (bytes margins given old new : List ℕ) : Type 0 where
  pub written : List ℕ
  pub is : new ≡ old ++ written
  pub tally : RescueTally
  pub stands : Stands s bytes margins (given ++ written) tally
