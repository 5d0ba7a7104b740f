-- Measurements of a transmission's own cells, and of cells close to them.
use Rattle.std.specs.Prelude.{◌≡◌, ℕ, ◌+◌, ◌*◌, ◌^◌, ◌<◌, ◌≤◌, IsTrue, Bool, true, not, ◌&&◌, List, Some}
use Rattle.mode_set.specs.StreamTable.{has_stream, label_bits}
use Rattle.mode_set.specs.declared.modes.Shape.{Shape}
use Rattle.mode_set.specs.declared.modes.Hierarchy.{Hierarchy}
use Rattle.mode_set.specs.declared.modes.Start.TheVariants.{Zero}
use Rattle.mode_set.specs.declared.modes.Stream.{Stream}
use Rattle.mode_set.specs.declared.modes.Stream.TheVariants.{Lp}
use Rattle.mode_set.specs.declared.settings.Settings.{Settings}
use Rattle.symbol_parameters.specs.Spans.{settings_in, exists_in}
use Rattle.qam_map.specs.Points.{map_cell, tolerance}
use Rattle.qam_map.specs.declared.cell.Cell.{Cell}
use Rattle.soft_metric.specs.Costs.{IsNear}
use Rattle.transmission.specs.Transmission.{Inputs}
use Rattle.transmission.specs.SuperFrames.{super_frames, counts_of, tx}
use Rattle.reception.specs.Cells.{symbols}
use Rattle.law_link.specs.Returned.{HavePackets, IsWithin}
use Rattle.measure_report.specs.declared.sums.StreamSums.{StreamSums}
use Rattle.measure_report.specs.declared.sums.SuperFrame.{SuperFrame}
use Rattle.hard_decision.specs.Hard.{hard_bit}
use Rattle.measurement.specs.SuperFrames.{AreSums}
use Rattle.measurement.specs.Lines.{begun_by, MeasureFinal}
use Rattle.law_measurement.specs.Totals.{sums_of}

-- within the tolerance of the point of a label, the hard decisions are the bits of the label
abbrev pub NearPointsAreDecided : Type 0
NearPointsAreDecided = (s : Shape) (h : Hierarchy) (y : ℕ → Bool) (cell : Cell) (e : ℕ) → e < label_bits s
    → IsNear s h (map_cell s h y) cell → hard_bit s h cell e ≡ y e

-- LP pauses after super-frame j: it exists there but not in the next one
abbrev pub pauses_after : Settings → ℕ → Bool
pauses_after s j = has_stream (settings_in s j).hierarchy Lp && not (has_stream (settings_in s (j + 1)).hierarchy Lp)

-- All symbols of super-frame j are compared. If LP pauses after it and it is not the last one of n, at most two are
-- not.
pub record AreCompared (s : Settings) (n j : ℕ) (f : SuperFrame) : Type 0 where
  pub most : 270 ≤ f.symbols
  pub few : f.symbols ≤ 272
  pub all : (pauses_after s j ≡ true → j + 1 ≡ n) → f.symbols ≡ 272

-- this holds from start zero for any bytes of n whole super-frames
abbrev pub SymbolsAreCompared : Type 0
SymbolsAreCompared = (s : Settings) (bytes : List ℕ) (n j : ℕ) (f : SuperFrame) → s.start ≡ Zero → symbols s bytes
    ≡ 272 * n → j < n → AreSums s bytes j f → AreCompared s n j f

-- no bit and no word of a stream is wrong, and each word has a phase
pub record IsClean (t : StreamSums) : Type 0 where
  pub wrong : t.wrong ≡ 0
  pub corrected : t.corrected ≡ 0
  pub bad : t.bad ≡ 0
  pub unphased : t.unphased ≡ 0
  pub repaired : t.repaired ≡ 0

-- the measurement of super-frame j of n shows no errors
pub record IsMeasuredClean (s : Settings) (n j : ℕ) (f : SuperFrame) : Type 0 where
  pub compared : AreCompared s n j f
  pub muted : f.muted ≡ 0
  pub streams : (σ : Stream) → IsTrue (exists_in s σ) → IsClean (sums_of σ f)

-- the tolerance of the constellation of super-frame j
abbrev pub tolerance_in : Settings → ℕ → ℕ
tolerance_in s j = tolerance (settings_in s j).shape (settings_in s j).hierarchy

-- the measurement shows no errors, and a modulation error within the tolerance on both axes
pub record IsMeasuredNear (s : Settings) (n j : ℕ) (f : SuperFrame) : Type 0 where
  pub clean : IsMeasuredClean s n j f
  pub error : f.error ≤ 2 * tolerance_in s j ^ 2 * f.cells

-- noise within the tolerance causes no errors in any super-frame
abbrev pub NoiseIsMeasured : Type 0
NoiseIsMeasured = (s : Settings) (inputs : Inputs) (bytes : List ℕ) (n j : ℕ) (f : SuperFrame) → s.start ≡ Zero
    → HavePackets s inputs → super_frames s (counts_of inputs) ≡ Some n → IsWithin s inputs bytes → j < n
    → AreSums s bytes j f → IsMeasuredNear s n j f

-- the measurement shows no errors, and a modulation error of 0
pub record IsMeasuredExact (s : Settings) (n j : ℕ) (f : SuperFrame) : Type 0 where
  pub clean : IsMeasuredClean s n j f
  pub error : f.error ≡ 0

-- a transmission without noise has a modulation error of 0 in every super-frame
abbrev pub OwnIsMeasured : Type 0
OwnIsMeasured = (s : Settings) (inputs : Inputs) (n j : ℕ) (f : SuperFrame) → s.start ≡ Zero → HavePackets s inputs
    → super_frames s (counts_of inputs) ≡ Some n → j < n → AreSums s (tx s inputs) j f → IsMeasuredExact s n j f

-- The same in the lines of a measurement: they have as many super-frames as the transmission, and each measures so.
abbrev pub FramesAreNear : Type 0
FramesAreNear = (s : Settings) (inputs : Inputs) (bytes out : List ℕ) (n : ℕ) (m : MeasureFinal s bytes out) → s.start
    ≡ Zero → HavePackets s inputs → super_frames s (counts_of inputs) ≡ Some n → IsWithin s inputs bytes
    → (begun_by (symbols s bytes) ≡ n) × ((j : ℕ) → j < n → IsMeasuredNear s n j (m.frames j))

-- For a transmission's own cells each measures as free of errors, with a modulation error of 0.
abbrev pub FramesAreExact : Type 0
FramesAreExact = (s : Settings) (inputs : Inputs) (out : List ℕ) (n : ℕ) (m : MeasureFinal s (tx s inputs) out)
    → s.start ≡ Zero → HavePackets s inputs → super_frames s (counts_of inputs) ≡ Some n
    → (begun_by (symbols s (tx s inputs)) ≡ n) × ((j : ℕ) → j < n → IsMeasuredExact s n j (m.frames j))
