-- The flat gain law for a file: cells received through a flat channel are corrected symbol by symbol.
use Rattle.std.specs.Prelude.{◌≡◌, ℕ, ◌<◌, ◌≤◌, List, flat_map, ℤ}
use Rattle.spec_words.specs.Words.{numbers}
use Rattle.mode_set.specs.StreamTable.{carriers}
use Rattle.mode_set.specs.declared.modes.Start.TheVariants.{Zero}
use Rattle.mode_set.specs.declared.settings.Settings.{Settings}
use Rattle.qam_map.specs.Cells.{cell_of}
use Rattle.inner_chain.specs.CostPairs.{weight_of}
use Rattle.cell_equal.specs.Files.{equalised_symbol}
use Rattle.transmission.specs.Transmission.{Inputs, tx_cell}
use Rattle.transmission.specs.SuperFrames.{symbols_of}
use Rattle.reception.specs.Cells.{symbols, bytes_of_symbol, symbol_cells, symbol_weights}
use Rattle.reception.specs.Streams.{Reception, Final}
use Rattle.law_link.specs.Returned.{HavePackets, IsReturned, AreClean, IsWithin}
use Rattle.law_link.specs.Flat.{IsFlat, CameThrough, IsRestored}

-- the whole symbols of the bytes, each corrected by its own pilots
unfoldable pub equalised_symbols : Settings → List ℕ → List ℕ
equalised_symbols s bytes = flat_map (λ n. equalised_symbol s.mode n (bytes_of_symbol s bytes n))
    (numbers (symbols s bytes))

-- The bytes have as many whole symbols as the transmission. Each of their cells is the sent one, received through the
-- gain (a + b i) / 16384, and has a weight of at least 1.
pub record HaveCome (s : Settings) (inputs : Inputs) (a b : ℤ) (bytes : List ℕ) : Type 0 where
  pub all : symbols s bytes ≡ symbols_of s inputs
  pub through : (m k : ℕ) → m < symbols_of s inputs → k < carriers s.mode
      → CameThrough a b (tx_cell s inputs m k) (cell_of (symbol_cells s bytes m) k)
  pub counts : (m k : ℕ) → m < symbols_of s inputs → k < carriers s.mode → 1 ≤ weight_of (symbol_weights s bytes m) k

-- The bytes have as many whole symbols as the transmission. Each of their cells is within `most` of the sent one on
-- each axis, and has a weight of at least 1.
pub record AreRestored (most : ℕ) (s : Settings) (inputs : Inputs) (bytes : List ℕ) : Type 0 where
  pub all : symbols s bytes ≡ symbols_of s inputs
  pub each : (m k : ℕ) → m < symbols_of s inputs → k < carriers s.mode
      → IsRestored most (tx_cell s inputs m k)
      (record { cell = cell_of (symbol_cells s bytes m) k; weight = weight_of (symbol_weights s bytes m) k })

-- correction restores a file from a flat channel to within 64 on both axes ..
abbrev pub FilesAreRestored : Type 0
FilesAreRestored = (s : Settings) (inputs : Inputs) (a b : ℤ) (bytes : List ℕ) → IsFlat a b
    → HaveCome s inputs a b bytes → AreRestored 64 s inputs (equalised_symbols s bytes)

-- .. which is within the tolerance of every constellation ..
abbrev pub FilesAreWithin : Type 0
FilesAreWithin = (s : Settings) (inputs : Inputs) (a b : ℤ) (bytes : List ℕ) → IsFlat a b → HaveCome s inputs a b bytes
    → IsWithin s inputs (equalised_symbols s bytes)

-- .. so a receiver gives the packets sent, then null packets ..
abbrev pub FilesAreReturned : Type 0
FilesAreReturned = (s : Settings) (inputs : Inputs) (a b : ℤ) (bytes : List ℕ) (r : Reception) → s.start ≡ Zero
    → HavePackets s inputs → IsFlat a b → HaveCome s inputs a b bytes
    → Final s (equalised_symbols s bytes) r → IsReturned s inputs r.packets

-- .. and all words are clean
abbrev pub FilesAreClean : Type 0
FilesAreClean = (s : Settings) (inputs : Inputs) (a b : ℤ) (bytes : List ℕ) (r : Reception) → s.start ≡ Zero
    → HavePackets s inputs → IsFlat a b → HaveCome s inputs a b bytes
    → Final s (equalised_symbols s bytes) r → AreClean s inputs r.tally
