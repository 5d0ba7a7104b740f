-- The results of recovering a word and finishing it.
use Rattle.std.specs.Prelude.{◌≡◌, ℕ, ◌+◌, ◌≤◌, ◌==◌, Bool, true, false, not, cond, Option, unwrap_or, List, ◌++◌}
use Rattle.rs204.specs.Codes.{distance}
use Rattle.rs204.specs.declared.outcome.Outcome.{Outcome}
use Rattle.rs204.specs.declared.outcome.Outcome.TheVariants.{Clean, Corrected, Bad}
use Rattle.outer_chain.specs.declared.slot.WordSlot.{WordSlot}
use Rattle.outer_chain.specs.Words.{phase_of, written, has}
use Rattle.rescue_words.specs.Recovery.{Recovery, IsRecovery, codeword_of}
use Rattle.rescue_words.specs.Recovery.Recovery.{Nearest, Rescued, Lost}
use Rattle.rescue_words.specs.declared.counts.WordKind.{WordKind}
use Rattle.rescue_words.specs.declared.counts.WordKind.TheVariants as kind
use Rattle.rescue_words.specs.declared.counts.RescueCounts.{RescueCounts}

-- how a recovered word is counted
abbrev pub kind_of : List ℕ → Recovery → WordKind
kind_of word (Nearest c) = cond (distance word c == 0) kind.Clean kind.Corrected
kind_of word (Rescued c) = kind.Rescued
kind_of word Lost = kind.Bad

-- the outcome of a recovered word: the number of wrong bytes if it has a nearest codeword, clean if it was rescued
abbrev pub outcome_of : List ℕ → Recovery → Outcome
outcome_of word (Nearest c) = cond (distance word c == 0) Clean (Corrected (distance word c))
outcome_of word (Rescued c) = Clean
outcome_of word Lost = Bad

-- the slot holds the recovered codeword, or the word unchanged if there is none
pub record HasRecovered (word margins : List ℕ) (slot : WordSlot) (counts_as : WordKind) : Type 0 where
  pub recovery : Recovery
  pub is_recovery : IsRecovery word margins recovery
  pub holds : slot.word ≡ unwrap_or (codeword_of recovery) word
  pub outcome_is : slot.outcome ≡ outcome_of word recovery
  pub kind_is : counts_as ≡ kind_of word recovery

-- the word counts as clean
abbrev pub is_clean_kind : WordKind → Bool
is_clean_kind kind.Clean = true
is_clean_kind kind.Corrected = false
is_clean_kind kind.Rescued = false
is_clean_kind kind.Bad = false

-- the word counts as corrected
abbrev pub is_corrected_kind : WordKind → Bool
is_corrected_kind kind.Clean = false
is_corrected_kind kind.Corrected = true
is_corrected_kind kind.Rescued = false
is_corrected_kind kind.Bad = false

-- the word counts as rescued
abbrev pub is_rescued_kind : WordKind → Bool
is_rescued_kind kind.Clean = false
is_rescued_kind kind.Corrected = false
is_rescued_kind kind.Rescued = true
is_rescued_kind kind.Bad = false

-- the word counts as bad
abbrev pub is_bad_kind : WordKind → Bool
is_bad_kind kind.Clean = false
is_bad_kind kind.Corrected = false
is_bad_kind kind.Rescued = false
is_bad_kind kind.Bad = true

-- the counts after one more word of this kind, with a phase or without
abbrev pub counted : RescueCounts → WordKind → Bool → RescueCounts
counted counts counts_as phased = record {
  words = counts.words + 1;
  clean = counts.clean + cond (is_clean_kind counts_as) 1 0;
  corrected = counts.corrected + cond (is_corrected_kind counts_as) 1 0;
  rescued = counts.rescued + cond (is_rescued_kind counts_as) 1 0;
  bad = counts.bad + cond (is_bad_kind counts_as) 1 0;
  unphased = counts.unphased + cond (not phased) 1 0;
}

-- each word has one kind, so no count exceeds that of the words
pub record AreFit (counts : RescueCounts) : Type 0 where
  pub kinds : counts.clean + counts.corrected + counts.rescued + counts.bad ≡ counts.words
  pub unphased : counts.unphased ≤ counts.words

-- a word was recovered, counted, and written at its phase, given the phase before it
pub record IsFinished (word margins : List ℕ) (before after : Option ℕ) (old new : List ℕ) (counts now : RescueCounts) :
    Type 0 where
  pub recovery : Recovery
  pub is_recovery : IsRecovery word margins recovery
  pub phase : after ≡ phase_of (codeword_of recovery) before
  pub is : new ≡ old ++ written after word (codeword_of recovery)
  pub counted_is : now ≡ counted counts (kind_of word recovery) (has after)
