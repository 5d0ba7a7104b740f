-- The files of a command at its ports: tables shared by commands.
use Rattle.std.specs.Prelude.{ℕ, List, Option, Some, None}
use Rattle.station_core.specs.declared.ports.InPort.{InPort}
use Rattle.station_core.specs.declared.ports.InPort.TheVariants as ins
use Rattle.station_core.specs.declared.ports.OutPort.{OutPort}
use Rattle.station_core.specs.declared.ports.OutPort.TheVariants as outs

-- one value for each input: Settings, Hp, Lp and Cells
abbrev pub by_input : {T : Type 0} → (settings hp lp cells : T) → InPort → T
by_input settings hp lp cells ins.Settings = settings
by_input settings hp lp cells ins.Hp = hp
by_input settings hp lp cells ins.Lp = lp
by_input settings hp lp cells ins.Cells = cells

-- one file of cells is written
abbrev pub cell_names : List ℕ → OutPort → Option (List ℕ)
cell_names name outs.Cells = Some name
cell_names name port = None

-- one transport file is written for each stream
abbrev pub stream_names : List ℕ → Option (List ℕ) → OutPort → Option (List ℕ)
stream_names hp lp outs.Hp = Some hp
stream_names hp lp outs.Lp = lp
stream_names hp lp port = None

-- one file of bytes is written
abbrev pub byte_names : List ℕ → OutPort → Option (List ℕ)
byte_names name outs.Bytes = Some name
byte_names name port = None
