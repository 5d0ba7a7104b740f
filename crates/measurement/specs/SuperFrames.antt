-- The sums of a super-frame (ETSI TR 101 290, 9.15 to 9.18; a super-frame has 272 symbols, EN 300 744, 4.4 and 4.7).
use Rattle.std.specs.Prelude.{◌≡◌, ℕ, zero, suc, ◌+◌, ◌-◌, ◌*◌, ◌/◌, ◌<◌, ◌≤◌, min, nat_lt, nat_le, ◌&&◌, not}
use Rattle.std.specs.Prelude.{if◌then◌else◌, Bool, List, Option, None, Some, count_by, sum_by, slice_index}
use Rattle.std.specs.Bool.{beq}
use Rattle.std.specs.List.{range_with_len}
use Rattle.spec_words.specs.Bits.{is_set}
use Rattle.spec_words.specs.Words.{numbers}
use Rattle.code_paths.specs.Streams.{Reports}
use Rattle.mode_set.specs.declared.modes.Stream.{Stream}
use Rattle.mode_set.specs.declared.modes.Stream.TheVariants.{Hp, Lp}
use Rattle.mode_set.specs.declared.settings.Settings.{Settings}
use Rattle.symbol_parameters.specs.Spans.{exists_in, steps_before, words_before}
use Rattle.outer_chain.specs.Bits.{bytes_of}
use Rattle.outer_chain.specs.Words.{word_count, word_at, IsNear, phase_before, has, is_clean}
use Rattle.reception.specs.Cells.{symbols}
use Rattle.reception.specs.Costs.{costs}
use Rattle.reception.specs.Frames.{tps_cells, frame_bits, CountsWords}
use Rattle.reception.specs.Streams.{memory, start_of}
use Rattle.measure_report.specs.declared.sums.StreamSums.{StreamSums}
use Rattle.measure_report.specs.declared.sums.SuperFrame.{SuperFrame}
use Rattle.measure_sums.specs.Comparing.{Comparison, cells_in, muted_in, power_in, error_in, bits_in, wrong_in}
use Rattle.measurement.specs.Known.{IsKnown, is_compared, comparison}

-- the bits of each stream known for each symbol
abbrev pub Knowns : Type 0
Knowns = ℕ → Stream → List Bool

-- the symbols of super-frame j
abbrev pub symbols_of : ℕ → List ℕ
symbols_of j = range_with_len (272 * j) 272

-- the number of these that are compared
abbrev pub compared_in : Settings → Knowns → ℕ → ℕ
compared_in s known j = count_by (λ m. is_compared s m (known m)) (symbols_of j)

-- the sum of a quantity over the compared symbols
abbrev pub over_compared : Settings → List ℕ → Knowns → ℕ → (Comparison → ℕ) → ℕ
over_compared s bytes known j f = sum_by (λ m. if is_compared s m (known m) then f (comparison s bytes (known m) m) else
    0) (symbols_of j)

-- the bits of a stream known with the last symbol of super-frame j
abbrev pub known_with : Knowns → Stream → ℕ → List Bool
known_with known σ j = known (272 * j + 271) σ

-- the number of words of a stream reported up to super-frame j: those known with its last symbol that end before the
-- stream's next super-frame, without the eleven of the start-up
abbrev pub told : Settings → Knowns → Stream → ℕ → ℕ
told s known σ j = min (word_count (bytes_of (known_with known σ j))) (words_before s σ (j + 1) - 11)

-- the number reported before it
abbrev pub told_before : Settings → Knowns → Stream → ℕ → ℕ
told_before s known σ zero = 0
told_before s known σ (suc j) = told s known σ j

-- the words of super-frame j: those reported with it and not before
abbrev pub words_of : Settings → Knowns → Stream → ℕ → List ℕ
words_of s known σ j = range_with_len (told_before s known σ j) (told s known σ j - told_before s known σ j)

-- the number of bits in which two words of 204 bytes differ
abbrev pub bits_apart : List ℕ → List ℕ → ℕ
bits_apart v w = sum_by (λ p. count_by (λ i. not (beq (is_set (slice_index v p) i) (is_set (slice_index w p) i)))
    (numbers 8)) (numbers 204)

-- the number of bits repaired in a word: those that differ from its nearest codeword
unfoldable pub repaired_in : List ℕ → Option (List ℕ) → ℕ
repaired_in word None = 0
repaired_in word (Some c) = bits_apart word c

-- whether a report at step `at`, counted from 1, falls in super-frame j
abbrev pub is_reported_in : Settings → Stream → ℕ → ℕ → Bool
is_reported_in s σ j at = nat_lt (steps_before s σ (272 * j)) at && nat_le at (steps_before s σ (272 * (j + 1)))

-- the sums of a stream in super-frame j
pub record AreStreamSums (s : Settings) (bytes : List ℕ) (known : Knowns) (j : ℕ) (σ : Stream) (t : StreamSums) : Type
    0 where
  pub bits : t.bits ≡ over_compared s bytes known j (λ x. bits_in x σ)
  pub wrong : t.wrong ≡ over_compared s bytes known j (λ x. wrong_in x σ)
  pub near : ℕ → Option (List ℕ)
  pub is_near : (x : ℕ) → x < told s known σ j → IsNear (word_at (bytes_of (known_with known σ j)) x) (near x)
  pub words : t.words ≡ told s known σ j - told_before s known σ j
  pub clean : t.clean ≡ count_by (λ x. is_clean (word_at (bytes_of (known_with known σ j)) x) (near x))
      (words_of s known σ j)
  pub corrected : t.corrected ≡ count_by (λ x. has (near x) && not
      (is_clean (word_at (bytes_of (known_with known σ j)) x) (near x))) (words_of s known σ j)
  pub bad : t.bad ≡ count_by (λ x. not (has (near x))) (words_of s known σ j)
  pub unphased : t.unphased ≡ count_by (λ x. not (has (phase_before near (suc x)))) (words_of s known σ j)
  pub repaired : t.repaired ≡ sum_by (λ x. repaired_in (word_at (bytes_of (known_with known σ j)) x) (near x))
      (words_of s known σ j)
  pub reports : List ℕ
  pub are_reports : Reports memory (start_of s.start) (costs s bytes σ) reports
  pub unmerged : t.unmerged ≡ count_by (is_reported_in s σ j) reports

-- the bits known for the symbols of super-frame j and for the symbol before them
abbrev pub AreKnownAround : Settings → List ℕ → ℕ → Knowns → Type 0
AreKnownAround s bytes j known = (m : ℕ) (σ : Stream) → 272 * j ≤ m + 1 → m < 272 * (j + 1)
    → IsKnown s bytes σ m (known m σ)

-- the sums of super-frame j; LP has sums if it exists in the transmission
pub record AreSums (s : Settings) (bytes : List ℕ) (j : ℕ) (f : SuperFrame) : Type 0 where
  pub known : Knowns
  pub are_known : AreKnownAround s bytes j known
  pub number : f.number ≡ j
  pub compared : f.symbols ≡ compared_in s known j
  pub cells : f.cells ≡ over_compared s bytes known j cells_in
  pub muted : f.muted ≡ over_compared s bytes known j muted_in
  pub power : f.power ≡ over_compared s bytes known j power_in
  pub error : f.error ≡ over_compared s bytes known j error_in
  pub frames : CountsWords (λ i. frame_bits (tps_cells s bytes) (4 * j + i)) (min 4 (symbols s bytes / 68 - 4 * j))
      f.tps_read f.tps_bad
  pub hp : AreStreamSums s bytes known j Hp f.hp
  pub lp : StreamSums
  pub lp_are : AreStreamSums s bytes known j Lp lp
  pub lp_is : f.lp ≡ (if exists_in s Lp then Some lp else None)
