-- The reception of a file of cells with given settings: the packets of the streams, and the lines of the report.
-- `bytes` are those after the header of the file.
use Rattle.std.specs.Prelude.{◌≡◌, ◌⊎◌, ℕ, ◌*◌, ◌<◌, ◌≤◌, nat_lt, if◌then◌else◌, List, [], ◌++◌, take, drop, Option}
use Rattle.std.specs.Prelude.{None, Some}
use Rattle.station_core.specs.declared.ports.OutPort.{OutPort}
use Rattle.station_core.specs.declared.ports.OutPort.TheVariants as outs
use Rattle.mode_set.specs.declared.modes.Stream.{Stream}
use Rattle.mode_set.specs.declared.modes.Stream.TheVariants.{Hp, Lp}
use Rattle.mode_set.specs.declared.settings.Settings.{Settings}
use Rattle.reception.specs.Cells.{symbol_length, symbols}
use Rattle.reception.specs.Streams.{Reception, Live, Final}
use Rattle.reception.specs.Lines.{event_lines, closing_lines}
use Rattle.cmd_base.specs.declared.refusal.Refusal.{Refusal}
use Rattle.cmd_base.specs.declared.refusal.Refusal.TheVariants.{Limit}

-- the bytes of a cell file after its header of eight bytes
abbrev pub cells_in : List ℕ → List ℕ
cells_in file = drop 8 file

-- more whole symbols than the limit are refused
abbrev pub reception_refusal : Settings → List ℕ → Option Refusal
reception_refusal s bytes = if nat_lt s.max_symbols (symbols s bytes) then Some (Limit s.max_symbols) else None

-- the bytes of as many symbols as the limit
abbrev pub within_limit : Settings → List ℕ → List ℕ
within_limit s bytes = take (s.max_symbols * symbol_length s) bytes

-- The cells are within the limit. This is their final output.
pub record IsAll {R : Type 0} (Final : Settings → List ℕ → R → Type 0) (s : Settings) (bytes : List ℕ) (r : R) : Type
    0 where
  pub within : symbols s bytes ≤ s.max_symbols
  pub final : Final s bytes r

-- The cells have more whole symbols than the limit. This is the output for those within it, as if more might follow.
pub record IsCutOff {R : Type 0} (Live : Settings → List ℕ → R → Type 0) (s : Settings) (bytes : List ℕ) (r : R) : Type
    0 where
  pub past : s.max_symbols < symbols s bytes
  pub live : Live s (within_limit s bytes) r

-- After a failed read this is the output for the bytes taken after the header, as if more might follow. They are within
-- the limit. Within the header there is no output.
pub record IsSoFar {R : Type 0} (Live : Settings → List ℕ → R → Type 0) (s : Settings) (file left : List ℕ) (r : R) :
    Type 0 where
  pub taken : List ℕ
  pub are : file ≡ taken ++ left
  pub within : symbols s (cells_in taken) ≤ s.max_symbols
  pub live : Live s (cells_in taken) r

-- the packets written at a port
abbrev pub packets_at : OutPort → (Stream → List ℕ) → List ℕ
packets_at outs.Hp packets = packets Hp
packets_at outs.Lp packets = packets Lp
packets_at port packets = []

-- The output at a port is the packets received.
abbrev pub OutputComes : Settings → List ℕ → OutPort → List ℕ → Type 0
OutputComes s bytes port output = (r : Reception) × (IsAll Final s bytes r ⊎ IsCutOff Live s bytes r)
    × (output ≡ packets_at port r.packets)

-- The report is the event lines of all cells and then the closing lines, or the event lines of the symbols within the
-- limit.
abbrev pub LinesCome : Settings → List ℕ → List ℕ → Type 0
LinesCome s bytes lines = (r : Reception) × (
    (IsAll Final s bytes r × (lines ≡ event_lines s bytes r ++ closing_lines s bytes r))
    ⊎ (IsCutOff Live s bytes r × (lines ≡ event_lines s (within_limit s bytes) r)))

-- After a failed read the output at a port is the packets of the bytes taken.
abbrev pub OutputSoFar : Settings → List ℕ → List ℕ → OutPort → List ℕ → Type 0
OutputSoFar s file left port output = (r : Reception) × IsSoFar Live s file left r
    × (output ≡ packets_at port r.packets)

-- The report has the event lines of these bytes, or none if no settings are stated.
abbrev pub LinesSoFar : Option Settings → List ℕ → List ℕ → List ℕ → Type 0
LinesSoFar None file left lines = lines ≡ []
LinesSoFar (Some s) file left lines = (r : Reception) × (so_far : IsSoFar Live s file left r)
    × (lines ≡ event_lines s (cells_in so_far.taken) r)
