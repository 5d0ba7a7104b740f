-- The lines of a measurement add up to the closing lines of a reception.
use Rattle.std.specs.Prelude.{◌≡◌, ℕ, IsTrue, List, unwrap_or, sum_by}
use Rattle.spec_words.specs.Words.{numbers}
use Rattle.mode_set.specs.declared.modes.Stream.{Stream}
use Rattle.mode_set.specs.declared.modes.Stream.TheVariants.{Hp, Lp}
use Rattle.mode_set.specs.declared.settings.Settings.{Settings}
use Rattle.symbol_parameters.specs.Spans.{exists_in}
use Rattle.reception.specs.Cells.{symbols}
use Rattle.reception.specs.Streams.{Reception, Final}
use Rattle.reception.specs.Lines.{counts_of_stream, closing_lines}
use Rattle.rx_report.specs.declared.counts.StreamCounts.{StreamCounts}
use Rattle.measure_report.specs.declared.sums.StreamSums.{StreamSums}
use Rattle.measure_report.specs.declared.sums.SuperFrame.{SuperFrame}
use Rattle.measurement.specs.Lines.{begun_by, MeasureFinal}

-- the sum of a count over the super-frames that the bytes begin
abbrev pub over_frames : Settings → List ℕ → (ℕ → SuperFrame) → (SuperFrame → ℕ) → ℕ
over_frames s bytes frames f = sum_by (λ j. f (frames j)) (numbers (begun_by (symbols s bytes)))

-- the sums of a stream that does not exist
abbrev pub nothing : StreamSums
nothing = record {
  bits = 0;
  wrong = 0;
  words = 0;
  clean = 0;
  corrected = 0;
  bad = 0;
  unphased = 0;
  unmerged
      = 0;
  repaired = 0;
}

-- the sums of a stream in a super-frame: all 0 if its line is absent
abbrev pub sums_of : Stream → SuperFrame → StreamSums
sums_of Hp f = f.hp
sums_of Lp f = unwrap_or f.lp nothing

-- the counts of a stream in all lines add up to its closing line
pub record AreTotals (s : Settings) (bytes : List ℕ) (frames : ℕ → SuperFrame) (σ : Stream) (closing : StreamCounts) :
    Type 0 where
  pub words : over_frames s bytes frames (λ f. (sums_of σ f).words) ≡ closing.words
  pub clean : over_frames s bytes frames (λ f. (sums_of σ f).clean) ≡ closing.clean
  pub corrected : over_frames s bytes frames (λ f. (sums_of σ f).corrected) ≡ closing.corrected
  pub bad : over_frames s bytes frames (λ f. (sums_of σ f).bad) ≡ closing.bad
  pub unphased : over_frames s bytes frames (λ f. (sums_of σ f).unphased) ≡ closing.unphased
  pub unmerged : over_frames s bytes frames (λ f. (sums_of σ f).unmerged) ≡ closing.unmerged

-- the same for each existing stream, and for the counts of TPS words
pub record AddUp (s : Settings) (bytes : List ℕ) (frames : ℕ → SuperFrame) (r : Reception) : Type 0 where
  pub streams : (σ : Stream) → IsTrue (exists_in s σ) → AreTotals s bytes frames σ (counts_of_stream r σ)
  pub read : over_frames s bytes frames (λ f. f.tps_read) ≡ r.read
  pub bad : over_frames s bytes frames (λ f. f.tps_bad) ≡ r.bad

-- the lines of a measurement add up
abbrev pub LinesAddUp : Type 0
LinesAddUp = (s : Settings) (bytes out : List ℕ) (m : MeasureFinal s bytes out) → AddUp s bytes m.frames m.reception

-- its closing lines are those of any reception of the bytes
abbrev pub ClosingIsReceived : Type 0
ClosingIsReceived = (s : Settings) (bytes out : List ℕ) (m : MeasureFinal s bytes out) (r : Reception) → Final s bytes r
    → closing_lines s bytes m.reception ≡ closing_lines s bytes r
