-- The conditions and effects of each step of a measurer.
use Rattle.std.specs.Prelude.{◌≡◌, ℕ, ◌+◌, ◌-◌, ◌*◌, ◌^◌, ◌<◌, ◌≤◌, min, Bool, List, ◌++◌}
use Rattle.mode_set.specs.declared.modes.Stream.{Stream}
use Rattle.mode_set.specs.declared.settings.Settings.{Settings}
use Rattle.reception.specs.Cells.{symbols}
use Rattle.reception.specs.Frames.{CountsWords, frame_bits, tps_cells}
use Rattle.reception.specs.Lines.{counts_of}
use Rattle.reception.specs.Streams.{Moment, so_far, at_end, Reception, Final}
use Rattle.rx_report.specs.declared.counts.Counts.{Counts}
use Rattle.std.specs.List.{concat}
use Rattle.measure_known_bits.specs.Passing.{IsSettled}
use Rattle.inner_receiver.specs.Fed.{Ends}
use Rattle.inner_receiver.specs.Framing.{FrameStands}
use Rattle.inner_receiver.specs.Seen.{CostsState}
use Rattle.inner_receiver.specs.declared.frames.FrameReader.{FrameReader}
use Rattle.measure_stream.specs.Reports.{AreFew}
use Rattle.measure_comparison.specs.Standing.{StandsBefore}
use Rattle.measure_sums.specs.Tables.{AreLittle}
use Rattle.measure_report.specs.declared.sums.SuperFrame.{SuperFrame}
use Rattle.measurement.specs.Lines.{lines_of, defined_by, begun_by}
use Rattle.measurement.specs.SuperFrames.{AreSums}
use Rattle.measurer.specs.declared.current.Current.{Current}
use Rattle.measurer.specs.Seen.{MeterState}
use Rattle.measurer.specs.Standing.{GoOn, MetersStand, FramesStand}

-- bounds of the sums and counts after `taken` symbols
pub record AreKept (x : MeterState) (taken : ℕ) : Type 0 where
  pub hp_reports : AreFew x.hp.reports (16 * taken)
  pub lp_reports : AreFew x.lp.reports (16 * taken)
  pub little : AreLittle x.current.sums (6048 * x.current.symbols)
  pub symbols : x.current.symbols + 272 * x.current.number ≤ x.comparer.next
  pub next : x.comparer.next ≤ taken

-- the bytes p complete the next symbol
pub record TakesSymbol (x : MeterState) (cells : CostsState) (bytes p : List ℕ) : Type 0 where
  pub taken : cells.taken ≡ symbols cells.settings bytes + 1
  pub ends : Ends cells bytes p
  pub goes_on : GoOn cells.settings bytes x

-- the same for some bytes
pub record TakesNext (x : MeterState) (cells : CostsState) : Type 0 where
  pub bytes : List ℕ
  pub p : List ℕ
  pub takes : TakesSymbol x cells bytes p

-- the comparer is at its place in some known bits
pub record HasBegun (x : MeterState) : Type 0 where
  pub known : Stream → List Bool
  pub stands : StandsBefore x.comparer.next x.comparer x.hp.known x.lp.known known

-- of n symbols, symbol m is the one whose bits just became known: the fourth last, or each of the last three at the end
abbrev pub IsDue : Moment → ℕ → ℕ → Type 0
IsDue so_far n m = n ≡ m + 4
IsDue at_end n m = (m < n) × (n < m + 4)

-- n symbols define the lines of super-frame j, and it has no symbols from `next` on
abbrev pub IsDone : Moment → ℕ → ℕ → ℕ → Type 0
IsDone so_far n next j = (n ≡ 272 * (j + 1) + 3) × (next ≡ 272 * (j + 1))
IsDone at_end n next j = (272 * j < n) × (n < 272 * (j + 1) + 3) × (next ≡ min n (272 * (j + 1)))

-- the reader has counted the words of the frames before the super-frame, and of some more
pub record CountsOn (x : Current) (frames : FrameReader) : Type 0 where
  pub word : ℕ → List Bool
  pub first : ℕ
  pub more : ℕ
  pub before : CountsWords word first x.read_before x.bad_before
  pub all : CountsWords word (first + more) frames.read frames.bad

-- the meters match some bytes
pub record HasStood (s : Settings) (x : MeterState) : Type 0 where
  pub moment : Moment
  pub bytes : List ℕ
  pub stand : MetersStand moment s bytes x

-- running meters match some bytes
pub record HasGone (s : Settings) (x : MeterState) : Type 0 where
  pub bytes : List ℕ
  pub few : symbols s bytes ≤ 2 ^ 32
  pub goes_on : GoOn s bytes x

-- the counts are those of the final reception of the bytes
pub record AreClosing (s : Settings) (bytes : List ℕ) (counts : Counts) : Type 0 where
  pub reception : Reception
  pub final : Final s bytes reception
  pub is : counts ≡ counts_of s bytes reception

-- the lines are those of the first n super-frames
pub record HasLines (s : Settings) (bytes : List ℕ) (n : ℕ) (lines : List ℕ) : Type 0 where
  pub frames : ℕ → SuperFrame
  pub are : (j : ℕ) → j < n → AreSums s bytes j (frames j)
  pub is : lines ≡ lines_of frames n

-- ---- between the steps

-- Before its lines are given: the last symbol was taken, and the symbol whose bits it made known was compared.
pub record HasCompared (s : Settings) (bytes : List ℕ) (frames : FrameReader) (x : MeterState) (lines : List ℕ) : Type
    0 where
  pub next : x.comparer.next ≡ symbols s bytes - 3
  pub number : x.current.number ≡ defined_by (symbols s bytes - 1)
  pub hp_settled : IsSettled x.hp.known
  pub lp_settled : IsSettled x.lp.known
  pub stand : MetersStand so_far s bytes x
  pub frames_stand : FramesStand s bytes frames x.current
  pub lines_are : HasLines s bytes x.current.number lines

-- the same for some bytes of `taken` symbols
pub record IsCompared (s : Settings) (taken : ℕ) (frames : FrameReader) (x : MeterState) : Type 0 where
  pub bytes : List ℕ
  pub lines : List ℕ
  pub count : symbols s bytes ≡ taken
  pub compared : HasCompared s bytes frames x lines

-- After the lines were given
pub record IsLive (s : Settings) (bytes : List ℕ) (frames : FrameReader) (x : MeterState) (lines : List ℕ) : Type
    0 where
  pub goes_on : GoOn s bytes x
  pub frames_stand : FramesStand s bytes frames x.current
  pub lines_are : HasLines s bytes (defined_by (symbols s bytes)) lines

-- At the end: if symbols of the super-frame remain, they are the last ones.
pub record IsEnding (s : Settings) (bytes : List ℕ) (frames : FrameReader) (x : MeterState) (lines : List ℕ) : Type
    0 where
  pub within : x.current.number ≤ begun_by (symbols s bytes)
  pub few : symbols s bytes < 272 * (x.current.number + 1) + 3
  pub last : 272 * x.current.number < symbols s bytes → symbols s bytes < x.comparer.next + 4
  pub from : 272 * x.current.number < symbols s bytes → 272 * x.current.number ≤ x.comparer.next
  pub to : x.comparer.next ≤ 272 * (x.current.number + 1)
  pub stand : MetersStand at_end s bytes x
  pub reader : FrameStands s.mode frames (tps_cells s bytes) (symbols s bytes)
  pub before : 272 * x.current.number < symbols s bytes → CountsWords (frame_bits (tps_cells s bytes)) (4 *
      x.current.number) x.current.read_before x.current.bad_before
  pub lines_are : HasLines s bytes x.current.number lines

-- the same for some bytes of `taken` symbols
pub record IsEnded (s : Settings) (taken : ℕ) (frames : FrameReader) (x : MeterState) : Type 0 where
  pub bytes : List ℕ
  pub lines : List ℕ
  pub count : symbols s bytes ≡ taken
  pub ending : IsEnding s bytes frames x lines

-- the sums have space for the symbols of the super-frame still to compare
pub record HasPlace (x : MeterState) (taken : ℕ) : Type 0 where
  pub little : AreLittle x.current.sums (6048 * x.current.symbols)
  pub symbols : 272 * x.current.number < taken → x.current.symbols + 272 * x.current.number ≤ x.comparer.next
  pub next : x.comparer.next ≤ taken

-- lines were appended that make this true
pub record Adds (old new : List (List ℕ)) (Then : List ℕ → Type 0) (lines : List ℕ) : Type 0 where
  pub more : List (List ℕ)
  pub is : new ≡ old ++ more
  pub then : Then (lines ++ concat more)
