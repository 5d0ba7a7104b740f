-- The flat gain law for the symbols of a transmission.
use Rattle.std.specs.Prelude.{ℕ, ◌%◌, ◌<◌, ◌≤◌, Bool, List, ℤ}
use Rattle.mode_set.specs.declared.modes.Shape.{Shape}
use Rattle.mode_set.specs.declared.modes.Hierarchy.{Hierarchy}
use Rattle.mode_set.specs.declared.settings.Settings.{Settings}
use Rattle.qam_map.specs.declared.cell.Cell.{Cell}
use Rattle.qam_map.specs.Points.{tolerance}
use Rattle.frame_build.specs.Symbol.{cell_at}
use Rattle.transmission.specs.Transmission.{Inputs, tx_cell}
use Rattle.transmission.specs.SuperFrames.{symbols_of}
use Rattle.law_link.specs.Flat.{IsFlat, HasCome, ComesBack}

-- symbol n of a transmission is restored from a flat channel, for any labels
abbrev pub SymbolsComeBack : Type 0
SymbolsComeBack = (s : Settings) (n : ℕ) (labels : ℕ → ℕ → Bool) (a b : ℤ) (received : List Cell) (weights : List ℕ)
    → IsFlat a b
    → HasCome s.mode a b (cell_at s n labels) received weights
    → ComesBack 64 s.mode (n % 68) (cell_at s n labels) received weights

-- so is each symbol of a whole transmission
abbrev pub TransmissionsComeBack : Type 0
TransmissionsComeBack = (s : Settings) (inputs : Inputs) (a b : ℤ) (received : ℕ → List Cell) (weights : ℕ → List ℕ)
    → IsFlat a b
    → ((m : ℕ) → m < symbols_of s inputs → HasCome s.mode a b (tx_cell s inputs m) (received m) (weights m))
    → (m : ℕ) → m < symbols_of s inputs → ComesBack 64 s.mode (m % 68) (tx_cell s inputs m) (received m) (weights m)

-- and that is close enough for every constellation
abbrev pub IsTolerated : Type 0
IsTolerated = (s : Shape) (h : Hierarchy) → 64 ≤ tolerance s h
