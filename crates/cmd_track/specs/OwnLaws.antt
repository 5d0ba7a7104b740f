-- The laws of `track`.
use Rattle.std.specs.Prelude.{◌≡◌, ℕ, ◌≤◌, List, ◌++◌, ℤ, Option, Some}
use Rattle.mode_set.specs.declared.modes.Start.TheVariants.{Zero}
use Rattle.mode_set.specs.declared.settings.Settings.{Settings}
use Rattle.tracking.specs.Laws.{GreaterPowersWeighMore}
use Rattle.law_tracking.specs.Steady.{SteadyGainsAreExact}
use Rattle.transmission.specs.Transmission.{Inputs}
use Rattle.reception.specs.Cells.{symbols}
use Rattle.reception.specs.Streams.{Reception, Final}
use Rattle.law_link.specs.Returned.{AreClean, HavePackets, IsReturned, IsWithin}
use Rattle.law_link.specs.Flat.{IsFlat}
use Rattle.law_link.specs.FlatFiles.{HaveCome, AreRestored}
use Rattle.law_tracking.specs.Tracked.{AreTracked, HaveBegun, tracked_file}
use Rattle.cmd_track.specs.Tracked.{cells_in, live_cells}

-- Whatever follows the cells, the output begins with those of their corrected symbols that no further symbol changes.
abbrev pub LiveCellsStay : Settings → List ℕ → Type 0
LiveCellsStay s bytes = (more : List ℕ) → (rest : List ℕ) × (tracked_file s (bytes ++ more) ≡ live_cells s bytes ++
    rest)

-- If the cells of IN are a transmission, received through one gain of half to full nominal amplitude:
pub record GainIsRemoved (s : Settings) (bytes : List ℕ) : Type 0 where
  -- Each cell of OUT is within 256 of the cell sent, on both axes, and has a weight of at least 1 ..
  pub restored : (inputs : Inputs) (a b : ℤ) → IsFlat a b → 4 ≤ symbols s bytes → HaveCome s inputs a b bytes
      → AreRestored 256 s inputs (tracked_file s bytes)
  -- .. even if IN ends before the transmission, but not before its fourth symbol.
  pub begun : (inputs : Inputs) (a b : ℤ) → IsFlat a b → HaveBegun s inputs a b bytes → AreTracked s inputs bytes
  -- That is within the tolerance of every constellation, so `receive` gives for it ..
  pub within : (inputs : Inputs) (a b : ℤ) → IsFlat a b → 4 ≤ symbols s bytes → HaveCome s inputs a b bytes
      → IsWithin s inputs (tracked_file s bytes)
  -- .. from start zero: the packets of the transmission, then null packets ..
  pub returned : (inputs : Inputs) (a b : ℤ) → s.start ≡ Zero → HavePackets s inputs → IsFlat a b
      → HaveCome s inputs a b bytes
      → (r : Reception) → Final s (tracked_file s bytes) r → IsReturned s inputs r.packets
  -- .. with all words clean.
  pub clean : (inputs : Inputs) (a b : ℤ) → s.start ≡ Zero → HavePackets s inputs → IsFlat a b
      → HaveCome s inputs a b bytes
      → (r : Reception) → Final s (tracked_file s bytes) r → AreClean s inputs r.tally

-- the laws, from the stated settings, if any, and the file IN
pub record TrackLaws (stated : Option Settings) (file : List ℕ) : Type 0 where
  pub live : (s : Settings) → stated ≡ Some s → LiveCellsStay s (cells_in file)
  pub flat_gain : (s : Settings) → stated ≡ Some s → GainIsRemoved s (cells_in file)
  -- On a channel that does not change the gain at a comb point is exact, for either motion.
  pub steady : SteadyGainsAreExact
  -- Within a symbol more power never gives a lower weight.
  pub weights : GreaterPowersWeighMore
