-- The packets and counts of words with rescue (this project's profile).
use Rattle.std.specs.Prelude.{◌≡◌, ℕ, suc, ◌<◌, ◌==◌, Bool, true, false, not, min, Option, List}
use Rattle.rs204.specs.Codes.{distance}
use Rattle.outer_chain.specs.Words.{word_at, word_count, phase_before, packets_to, count, has}
use Rattle.rescue_words.specs.ByteMargins.{margins_at}
use Rattle.rescue_words.specs.Recovery.{Recovery, IsRecovery, codeword_of}
use Rattle.rescue_words.specs.Recovery.Recovery.{Nearest, Rescued, Lost}

-- the counts of words
pub record RescueTally : Type 0 where
  pub words : ℕ
  pub clean : ℕ
  pub corrected : ℕ
  pub rescued : ℕ
  pub bad : ℕ
  pub unphased : ℕ

-- the word is its nearest codeword
abbrev pub is_clean : List ℕ → Recovery → Bool
is_clean word (Nearest c) = distance word c == 0
is_clean word (Rescued c) = false
is_clean word Lost = false

-- the word has a nearest codeword other than itself
abbrev pub is_corrected : List ℕ → Recovery → Bool
is_corrected word (Nearest c) = not (distance word c == 0)
is_corrected word (Rescued c) = false
is_corrected word Lost = false

-- the word has no nearest codeword, but was rescued
abbrev pub is_rescued : Recovery → Bool
is_rescued (Nearest c) = false
is_rescued (Rescued c) = true
is_rescued Lost = false

-- the word could not be recovered
abbrev pub is_lost : Recovery → Bool
is_lost (Nearest c) = false
is_lost (Rescued c) = false
is_lost Lost = true

-- the codewords of recovered words
abbrev pub codewords : (ℕ → Recovery) → ℕ → Option (List ℕ)
codewords recovery n = codeword_of (recovery n)

-- the counts of the first n words; a word without a phase gives no packet
abbrev pub tally_to : (ℕ → Recovery) → (ℕ → List ℕ) → ℕ → RescueTally
tally_to recovery word n = record {
  words = n;
  clean = count (λ k. is_clean (word k) (recovery k)) n;
  corrected = count (λ k. is_corrected (word k) (recovery k)) n;
  rescued = count (λ k. is_rescued (recovery k)) n;
  bad = count (λ k. is_lost (recovery k)) n;
  unphased = count (λ k. not (has (phase_before (codewords recovery) (suc k)))) n;
}

-- the words whose bytes and margins are all known
abbrev pub known_words : List ℕ → List ℕ → ℕ
known_words bytes margins = min (word_count bytes) (word_count margins)

-- Interleaved bytes with these margins give these packets and counts. Each word is recovered; phases and packets are
-- those of the recovered codewords.
pub record Rescues (bytes margins out : List ℕ) (tally : RescueTally) : Type 0 where
  pub recovery : ℕ → Recovery
  pub is_recovery : (n : ℕ) → n < known_words bytes margins → IsRecovery (word_at bytes n) (margins_at margins n)
      (recovery n)
  pub packets : out ≡ packets_to (codewords recovery) (word_at bytes) (known_words bytes margins)
  pub counts : tally ≡ tally_to recovery (word_at bytes) (known_words bytes margins)
