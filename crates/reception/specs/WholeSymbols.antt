-- The law of whole symbols, the clause of a public function of module laws.
use Rattle.std.specs.Prelude.{◌≡◌, ◌↔◌, ℕ, ◌*◌, List, take}
use Rattle.mode_set.specs.declared.settings.Settings.{Settings}
use Rattle.reception.specs.Cells.{symbol_length, symbols}
use Rattle.reception.specs.Lines.{counts_of, event_lines}
use Rattle.reception.specs.Streams.{Reception, Final}

-- the whole symbols of a list of bytes, without the bytes after them
abbrev pub whole_symbols : Settings → List ℕ → List ℕ
whole_symbols s bytes = take (symbols s bytes * symbol_length s) bytes

-- These cells have the same reception as those bytes, at the end: the same output and event lines, and the same counts
-- in the closing lines, except that no bytes follow their whole symbols.
pub record AreReceivedAlike (s : Settings) (bytes cells : List ℕ) : Type 0 where
  pub final : (r : Reception) → Final s bytes r ↔ Final s cells r
  pub events : (r : Reception) → event_lines s cells r ≡ event_lines s bytes r
  pub counts : (r : Reception) → counts_of s cells r ≡ record (counts_of s bytes r) { tail = 0 }

-- a file and its whole symbols have the same reception
abbrev pub WholeSymbolsAlike : Type 0
WholeSymbolsAlike = (s : Settings) (bytes : List ℕ) → AreReceivedAlike s bytes (whole_symbols s bytes)
