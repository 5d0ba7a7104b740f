-- The meaning of a measurer's state.
use Rattle.std.specs.Prelude.{◌≡◌, ℕ, ◌+◌, ◌-◌, ◌*◌, ◌<◌, ◌≤◌, Bool, true, false, List, ⊤}
use Rattle.mode_set.specs.declared.modes.Stream.{Stream}
use Rattle.mode_set.specs.declared.settings.Settings.{Settings}
use Rattle.measure_known_bits.specs.Passing.{IsSettled}
use Rattle.reception.specs.Cells.{symbols, symbol_cells, symbol_weights}
use Rattle.reception.specs.Costs.{costs}
use Rattle.reception.specs.Frames.{tps_cells, frame_bits, CountsWords}
use Rattle.reception.specs.Laws.{unfinished}
use Rattle.reception.specs.Streams.{Moment, so_far, at_end}
use Rattle.inner_receiver.specs.Framing.{FrameStands}
use Rattle.inner_receiver.specs.declared.frames.FrameReader.{FrameReader}
use Rattle.measure_stream.specs.Standing.{Stands}
use Rattle.measure_stream.specs.declared.stream.StreamMeter.{StreamMeter}
use Rattle.measure_comparison.specs.Seen.{SymbolState, ComparerState}
use Rattle.measure_comparison.specs.Standing.{StandsBefore, kept_at}
use Rattle.measurement.specs.Known.{IsKnown}
use Rattle.measurement.specs.Lines.{defined_by, MeasureLive, MeasureFinal}
use Rattle.measurement.specs.SuperFrames.{Knowns, told_before}
use Rattle.measurer.specs.declared.current.Current.{Current}
use Rattle.measurer.specs.Seen.{MeterState, meter_of, MeasurerState}
use Rattle.measurer.specs.Sums.{AreSummed}

-- The meter of a stream matches the costs of the bytes and the bits of its decoder. Its first word of the super-frame
-- is the first one not reported before, by the bits known for the symbol before the super-frame.
pub record MeterStands (moment : Moment) (x : StreamMeter) (s : Settings) (bytes : List ℕ) (σ : Stream) (j : ℕ)
    (bits : List Bool) : Type 0 where
  pub from : ℕ
  pub reports : List ℕ
  pub stands : Stands moment x s σ j from (costs s bytes σ) bits reports
  pub told : (known : Knowns) → ((m : ℕ) → m + 1 ≡ 272 * j → IsKnown s bytes σ m (known m σ)) → told_before s known σ j
      ≡ from

-- a received symbol of the bytes
abbrev pub symbol_of : Settings → List ℕ → ℕ → SymbolState
symbol_of s bytes m = record { cells = symbol_cells s bytes m; weights = symbol_weights s bytes m }

-- the last four of n symbols are kept
abbrev pub KeepsLast : Settings → List ℕ → ℕ → ComparerState → Type 0
KeepsLast s bytes n x = (m : ℕ) (d : SymbolState) → m < n → n ≤ m + 4 → kept_at x m d ≡ symbol_of s bytes m

-- The meters of both streams, the comparer and the sums match the bytes. The symbols before the next one to compare
-- were compared or left out, and those in the super-frame are summed.
pub record MetersStand (moment : Moment) (s : Settings) (bytes : List ℕ) (x : MeterState) : Type 0 where
  pub bits : Stream → List Bool
  pub meters : (σ : Stream) → MeterStands moment (meter_of x σ) s bytes σ x.current.number (bits σ)
  pub settings : x.comparer.settings ≡ s
  pub before : StandsBefore x.comparer.next x.comparer x.hp.known x.lp.known bits
  pub keeps : KeepsLast s bytes (symbols s bytes) x.comparer
  pub summed : AreSummed s bytes x.comparer.next x.current

-- the reader of TPS words matches the bytes, and the counts of frames are those of the super-frames before
pub record FramesStand (s : Settings) (bytes : List ℕ) (frames : FrameReader) (x : Current) : Type 0 where
  pub reader : FrameStands s.mode frames (tps_cells s bytes) (symbols s bytes)
  pub before : CountsWords (frame_bits (tps_cells s bytes)) (4 * x.number) x.read_before x.bad_before

-- The state between two symbols: all symbols except the last three were compared or left out, and the super-frame is
-- that of the next one. The encoders have passed all known bits before it.
pub record GoOn (s : Settings) (bytes : List ℕ) (x : MeterState) : Type 0 where
  pub next : x.comparer.next ≡ symbols s bytes - 3
  pub number : x.current.number ≡ defined_by (symbols s bytes)
  pub hp_settled : IsSettled x.hp.known
  pub lp_settled : IsSettled x.lp.known
  pub stand : MetersStand so_far s bytes x

-- until the end the parts of a measurer match the bytes
pub record IsMeasuring (x : MeasurerState) (bytes : List ℕ) : Type 0 where
  pub meters : GoOn x.settings bytes x.meter
  pub frames : FramesStand x.settings bytes x.frames x.meter.current

-- the lines of the bytes at a moment
abbrev pub AreLines : Moment → Settings → List ℕ → List ℕ → Type 0
AreLines so_far = MeasureLive
AreLines at_end = MeasureFinal

-- whether the input has ended
abbrev pub is_end : Moment → Bool
is_end so_far = false
is_end at_end = true

-- until the end, the parts of the measurer match the bytes
abbrev pub GoesOn : Moment → MeasurerState → List ℕ → Type 0
GoesOn so_far x bytes = IsMeasuring x bytes
GoesOn at_end x bytes = ⊤

-- The state of a measurer matches the bytes received and all lines given: those defined so far, or all at the end.
pub record StandsFor (moment : Moment) (x : MeasurerState) (bytes lines : List ℕ) : Type 0 where
  pub ended : x.ended ≡ is_end moment
  pub taken : x.taken ≡ symbols x.settings bytes
  pub rest : x.rest ≡ unfinished x.settings bytes
  pub lines_are : AreLines moment x.settings bytes lines
  pub goes_on : GoesOn moment x bytes
