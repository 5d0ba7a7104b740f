-- The counts of received words (the words are those of EN 300 744, 4.3.2; the counts are this project's profile).
use Rattle.std.specs.Prelude.{ℕ, suc, ◌+◌, ◌*◌, ◌≤◌, Bool, not, cond, ◌&&◌, List, Option, length, count_by, sum_by}
use Rattle.std.specs.Prelude.{slice_index}
use Rattle.std.specs.Bool.{beq}
use Rattle.spec_words.specs.Bits.{is_set}
use Rattle.spec_words.specs.Words.{numbers}
use Rattle.rs204.specs.declared.outcome.Outcome.{Outcome}
use Rattle.outer_chain.specs.Words.{phase_before, has, is_clean}
use Rattle.outer_chain.specs.Running.{is_clean_outcome, is_corrected_outcome, is_bad_outcome}
use Rattle.measurement.specs.SuperFrames.{repaired_in}
use Rattle.measure_words.specs.declared.counts.WordSums.{WordSums}

-- the number of bits in which byte p of two words differs
abbrev pub byte_apart : List ℕ → List ℕ → ℕ → ℕ
byte_apart v w p = count_by (λ i. not (beq (is_set (slice_index v p) i) (is_set (slice_index w p) i))) (numbers 8)

-- the counts of no words
abbrev pub no_sums : WordSums
no_sums = record { words = 0; clean = 0; corrected = 0; bad = 0; unphased = 0; repaired = 0 }

-- the counts of the words of these numbers, from their nearest codewords
abbrev pub sums_over : (ℕ → Option (List ℕ)) → (ℕ → List ℕ) → List ℕ → WordSums
sums_over near word xs = record {
  words = length xs;
  clean = count_by (λ x. is_clean (word x) (near x)) xs;
  corrected = count_by (λ x. has (near x) && not (is_clean (word x) (near x))) xs;
  bad = count_by (λ x. not (has (near x))) xs;
  unphased = count_by (λ x. not (has (phase_before near (suc x)))) xs;
  repaired = sum_by (λ x. repaired_in (word x) (near x)) xs;
}

-- one more word, with its outcome, with a phase or without, and the number of bits repaired in it
abbrev pub counted : WordSums → Outcome → Bool → ℕ → WordSums
counted sums outcome phased repaired = record {
  words = sums.words + 1;
  clean = sums.clean + cond (is_clean_outcome outcome) 1 0;
  corrected = sums.corrected + cond (is_corrected_outcome outcome) 1 0;
  bad = sums.bad + cond (is_bad_outcome outcome) 1 0;
  unphased = sums.unphased + cond (not phased) 1 0;
  repaired = sums.repaired + repaired;
}

-- the greatest counts of n words; a word has 1632 bits
pub record AreFew (sums : WordSums) (n : ℕ) : Type 0 where
  pub words : sums.words ≤ n
  pub clean : sums.clean ≤ n
  pub corrected : sums.corrected ≤ n
  pub bad : sums.bad ≤ n
  pub unphased : sums.unphased ≤ n
  pub repaired : sums.repaired ≤ 1632 * n
