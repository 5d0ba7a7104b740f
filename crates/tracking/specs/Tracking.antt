-- A cell file corrected by the scattered pilots of neighbouring symbols. It begins at the first symbol of a
-- super-frame.
use Rattle.std.specs.Prelude.{ℕ, ◌-◌, ◌/◌, ◌==◌, if◌then◌else◌, List, [], length, map, get_or, slice_index, flat_map}
use Rattle.std.specs.Prelude.{Option, Some, None}
use Rattle.spec_words.specs.Words.{numbers}
use Rattle.mode_set.specs.Entries.{entry}
use Rattle.mode_set.specs.StreamTable.{carriers}
use Rattle.mode_set.specs.declared.settings.Settings.{Settings}
use Rattle.qam_map.specs.Cells.{cell_of}
use Rattle.qam_map.specs.declared.cell.Cell.{Cell}
use Rattle.frame_build.specs.Symbol.{cell_bytes}
use Rattle.tracking.specs.BadSymbols.{middle}
use Rattle.tracking.specs.Comb.{Comb, comb_of, continual_points, window}
use Rattle.tracking.specs.Correction.{mean_power, full_power, corrected}
use Rattle.tracking.specs.InFrequency.{carrier_gain}
use Rattle.tracking.specs.InTime.{point_gain}
use Rattle.tracking.specs.Moving.{mean_residue, noise_of}
use Rattle.track_arithmetic.specs.declared.complex.Complex.{Complex}
use Rattle.tracking.specs.declared.motion.Motion.TheVariants.{Slow, Fast}
use Rattle.tracking.specs.declared.tracked.Tracked.{Tracked}

-- a received symbol: the cells of its carriers and their weights
pub record Symbol : Type 0 where
  pub cells : List Cell
  pub weights : List ℕ

-- the comb points of a file
abbrev pub comb : Settings → List Symbol → Comb
comb s symbols = comb_of s.mode (map (λ x. x.cells) symbols)

-- the gain at carrier k of symbol m
unfoldable pub gain : Settings → Comb → ℕ → ℕ → Complex
gain s c m k = carrier_gain s.guard s.mode (point_gain s.guard c m) k

-- the noise from the motion, or half the median change if no motion was measured
abbrev pub noise_by : Option ℕ → Option ℕ → ℕ → ℕ
noise_by None fast middle = middle / 2
noise_by (Some slow) None middle = middle / 2
noise_by (Some slow) (Some fast) middle = noise_of slow fast

-- the noise of the continual pilots at symbol m
unfoldable pub noise : Comb → ℕ → ℕ
noise c m = noise_by (mean_residue c Slow m) (mean_residue c Fast m) (middle c m)

-- the power at which a cell of symbol m has full weight; the mean power if the file has one symbol, as its
-- noise is unknown
unfoldable pub reference_power : Settings → Comb → ℕ → ℕ
reference_power s c m =
    if length (window c m) == 1 then mean_power s.mode (gain s c m)
    else full_power (entry s (m / 272)).shape (mean_power s.mode (gain s c m)) (noise c m)
    (length (continual_points s.mode))

-- carrier k of symbol m after correction
unfoldable pub tracked : Settings → List Symbol → ℕ → ℕ → Tracked
tracked s symbols m k =
    let x = get_or symbols m (record { cells = []; weights = [] }) in
    corrected (reference_power s (comb s symbols) m) (gain s (comb s symbols) m k) (cell_of x.cells k)
    (slice_index x.weights k)

-- the bytes of a corrected carrier in a cell file
abbrev pub bytes_of : Tracked → List ℕ
bytes_of x = cell_bytes x.cell x.weight

-- the bytes of symbol m after correction, carriers rising
unfoldable pub tracked_bytes : Settings → List Symbol → ℕ → List ℕ
tracked_bytes s symbols m = flat_map (λ k. bytes_of (tracked s symbols m k)) (numbers (carriers s.mode))

-- the symbols of a file, corrected
unfoldable pub tracked_symbols : Settings → List Symbol → List (List ℕ)
tracked_symbols s symbols = map (tracked_bytes s symbols) (numbers (length symbols))

-- those that no further symbol changes: all but the last seven
unfoldable pub live_symbols : Settings → List Symbol → List (List ℕ)
live_symbols s symbols = map (tracked_bytes s symbols) (numbers (length symbols - 7))
