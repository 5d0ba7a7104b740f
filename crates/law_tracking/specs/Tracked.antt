-- The flat gain law of channel tracking: a file received through a flat channel is restored.
use Rattle.std.specs.Prelude.{◌≡◌, ℕ, ◌<◌, ◌≤◌, List, flat_map, map, ℤ}
use Rattle.spec_words.specs.Words.{numbers}
use Rattle.mode_set.specs.StreamTable.{carriers}
use Rattle.mode_set.specs.declared.modes.Hierarchy.{Hierarchy}
use Rattle.mode_set.specs.declared.modes.Shape.{Shape}
use Rattle.mode_set.specs.declared.modes.Start.TheVariants.{Zero}
use Rattle.mode_set.specs.declared.settings.Settings.{Settings}
use Rattle.qam_map.specs.Cells.{cell_of}
use Rattle.qam_map.specs.Points.{tolerance}
use Rattle.inner_chain.specs.CostPairs.{weight_of}
use Rattle.tracking.specs.Tracking.{Symbol, tracked_bytes}
use Rattle.transmission.specs.Transmission.{Inputs, tx_cell}
use Rattle.transmission.specs.SuperFrames.{symbols_of}
use Rattle.reception.specs.Cells.{symbols, symbol_cells, symbol_weights}
use Rattle.reception.specs.Streams.{Reception, Final}
use Rattle.law_link.specs.Returned.{HavePackets, IsReturned, AreClean, IsWithin}
use Rattle.law_link.specs.FlatFiles.{HaveCome, AreRestored}
use Rattle.law_link.specs.Flat.{IsFlat, CameThrough, IsRestored}

-- the whole symbols of the bytes
unfoldable pub received : Settings → List ℕ → List Symbol
received s bytes = map (λ m. record { cells = symbol_cells s bytes m; weights = symbol_weights s bytes m })
    (numbers (symbols s bytes))

-- the bytes after correction
unfoldable pub tracked_file : Settings → List ℕ → List ℕ
tracked_file s bytes = flat_map (tracked_bytes s (received s bytes)) (numbers (symbols s bytes))

-- The bytes have the first whole symbols of the transmission, at least four. Each of their cells is the sent one,
-- received through the gain (a + b i) / 16384, and has a weight of at least 1.
pub record HaveBegun (s : Settings) (inputs : Inputs) (a b : ℤ) (bytes : List ℕ) : Type 0 where
  pub some : 4 ≤ symbols s bytes
  pub most : symbols s bytes ≤ symbols_of s inputs
  pub through : (m k : ℕ) → m < symbols s bytes → k < carriers s.mode
      → CameThrough a b (tx_cell s inputs m k) (cell_of (symbol_cells s bytes m) k)
  pub counts : (m k : ℕ) → m < symbols s bytes → k < carriers s.mode → 1 ≤ weight_of (symbol_weights s bytes m) k

-- each symbol of such a file is restored to within 256 on both axes ..
pub record AreTracked (s : Settings) (inputs : Inputs) (bytes : List ℕ) : Type 0 where
  pub all : symbols s (tracked_file s bytes) ≡ symbols s bytes
  pub each : (m k : ℕ) → m < symbols s bytes → k < carriers s.mode
      → IsRestored 256 (tx_cell s inputs m k)
      (record {
        cell = cell_of (symbol_cells s (tracked_file s bytes) m) k;
        weight
            = weight_of (symbol_weights s (tracked_file s bytes) m) k;
      })

-- the first symbols of a transmission through a flat channel are so restored
abbrev pub BeginningsAreTracked : Type 0
BeginningsAreTracked = (s : Settings) (inputs : Inputs) (a b : ℤ) (bytes : List ℕ) → IsFlat a b
    → HaveBegun s inputs a b bytes → AreTracked s inputs bytes

-- .. and so is a whole file ..
abbrev pub FilesAreTracked : Type 0
FilesAreTracked = (s : Settings) (inputs : Inputs) (a b : ℤ) (bytes : List ℕ) → IsFlat a b → 4 ≤ symbols s bytes
    → HaveCome s inputs a b bytes → AreRestored 256 s inputs (tracked_file s bytes)

-- .. which is within the tolerance of every constellation ..
abbrev pub IsWellTolerated : Type 0
IsWellTolerated = (s : Shape) (h : Hierarchy) → 256 ≤ tolerance s h

-- .. so a tracked file is within the tolerance of its transmission ..
abbrev pub TrackedAreWithin : Type 0
TrackedAreWithin = (s : Settings) (inputs : Inputs) (a b : ℤ) (bytes : List ℕ) → IsFlat a b → 4 ≤ symbols s bytes
    → HaveCome s inputs a b bytes → IsWithin s inputs (tracked_file s bytes)

-- .. so a receiver gives the packets sent, then null packets ..
abbrev pub TrackedAreReturned : Type 0
TrackedAreReturned = (s : Settings) (inputs : Inputs) (a b : ℤ) (bytes : List ℕ) (r : Reception) → s.start ≡ Zero
    → HavePackets s inputs → IsFlat a b → HaveCome s inputs a b bytes
    → Final s (tracked_file s bytes) r → IsReturned s inputs r.packets

-- .. and all words are clean
abbrev pub TrackedAreClean : Type 0
TrackedAreClean = (s : Settings) (inputs : Inputs) (a b : ℤ) (bytes : List ℕ) (r : Reception) → s.start ≡ Zero
    → HavePackets s inputs → IsFlat a b → HaveCome s inputs a b bytes
    → Final s (tracked_file s bytes) r → AreClean s inputs r.tally
