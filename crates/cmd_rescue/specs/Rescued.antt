-- The rescue of a file of cells with given settings: the packets of the streams, and the lines of the report. `bytes`
-- are those after the header of the file.
use Rattle.std.specs.Prelude.{◌≡◌, ◌⊎◌, ℕ, List, [], ◌++◌, Option, None, Some}
use Rattle.station_core.specs.declared.ports.OutPort.{OutPort}
use Rattle.mode_set.specs.declared.settings.Settings.{Settings}
use Rattle.rescue.specs.Streams.{Rescue, RescuesSoFar, RescuesAtEnd}
use Rattle.rescue.specs.Lines.{event_lines, closing_lines}
use Rattle.cmd_receive.specs.Received.{cells_in, within_limit, IsAll, IsCutOff, IsSoFar, packets_at}

-- The output at a port is the packets of all cells or, if they have more symbols than the limit, of those within it.
abbrev pub OutputComes : Settings → List ℕ → OutPort → List ℕ → Type 0
OutputComes s bytes port output = (r : Rescue) × (IsAll RescuesAtEnd s bytes r ⊎ IsCutOff RescuesSoFar s bytes r)
    × (output ≡ packets_at port r.packets)

-- The report is the event lines of all cells and then the closing lines, or the event lines of the symbols within the
-- limit.
abbrev pub LinesCome : Settings → List ℕ → List ℕ → Type 0
LinesCome s bytes lines = (r : Rescue) × (
    (IsAll RescuesAtEnd s bytes r × (lines ≡ event_lines s bytes r ++ closing_lines s bytes r))
    ⊎ (IsCutOff RescuesSoFar s bytes r × (lines ≡ event_lines s (within_limit s bytes) r)))

-- After a failed read the output at a port is the packets of the bytes taken.
abbrev pub OutputSoFar : Settings → List ℕ → List ℕ → OutPort → List ℕ → Type 0
OutputSoFar s file left port output = (r : Rescue) × IsSoFar RescuesSoFar s file left r
    × (output ≡ packets_at port r.packets)

-- The report has the event lines of these bytes, or none if no settings are stated.
abbrev pub LinesSoFar : Option Settings → List ℕ → List ℕ → List ℕ → Type 0
LinesSoFar None file left lines = lines ≡ []
LinesSoFar (Some s) file left lines = (r : Rescue) × (so_far : IsSoFar RescuesSoFar s file left r)
    × (lines ≡ event_lines s (cells_in so_far.taken) r)
