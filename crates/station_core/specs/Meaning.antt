-- The state of a station: its ports, what is left to read, what was written, and its counts of faults.
use Rattle.std.specs.Prelude.{◌≡◌, ℕ, Bool, true, false, List, [], ◌++◌, drop, Option, None, Some, if◌then◌else◌}
use Rattle.station_core.specs.declared.ports.InPort.{InPort}
use Rattle.station_core.specs.declared.ports.InPort.TheVariants as ins
use Rattle.station_core.specs.declared.ports.OutPort.{OutPort}
use Rattle.station_core.specs.declared.ports.OutPort.TheVariants as outs

-- an input port
pub record Source : Type 0 where
  -- the name given to the only `attach` call
  pub asked : Option (List ℕ)
  pub attached : Bool
  -- the bytes still to be read
  pub left : List ℕ

-- an output port
pub record Sink : Type 0 where
  pub asked : Option (List ℕ)
  pub created : Bool
  pub closed : Bool
  -- the bytes written since its creation
  pub written : List ℕ

-- the state of a station
pub record Meaning : Type 0 where
  -- whether the contents (`file`, `left`, `written`) are known; if not, they mean nothing
  pub tells : Bool
  -- the bytes of the file of a name
  pub file : List ℕ → List ℕ
  pub settings : Source
  pub hp : Source
  pub lp : Source
  pub cells : Source
  pub cells_out : Sink
  pub hp_out : Sink
  pub lp_out : Sink
  pub bytes_out : Sink
  pub report : Sink
  pub read_faults : ℕ
  -- failed writes, and outputs that could not be created
  pub write_faults : ℕ
  -- outputs that could not be closed cleanly
  pub close_faults : ℕ
  -- the write faults that were failed writes to Report
  pub report_faults : ℕ
  -- An output may have bytes not yet written, or a file fault not yet reported by a call. Report is not an output here.
  pub pending : Bool

-- the state of an input port
abbrev pub source_at : InPort → Meaning → Source
source_at ins.Settings m = m.settings
source_at ins.Hp m = m.hp
source_at ins.Lp m = m.lp
source_at ins.Cells m = m.cells

-- the state of an output port
abbrev pub sink_at : OutPort → Meaning → Sink
sink_at outs.Cells m = m.cells_out
sink_at outs.Hp m = m.hp_out
sink_at outs.Lp m = m.lp_out
sink_at outs.Bytes m = m.bytes_out
sink_at outs.Report m = m.report

-- the same station with another source at the port
abbrev pub with_source : InPort → Source → Meaning → Meaning
with_source ins.Settings s m = record m { settings = s }
with_source ins.Hp s m = record m { hp = s }
with_source ins.Lp s m = record m { lp = s }
with_source ins.Cells s m = record m { cells = s }

-- the same station with another sink at the port
abbrev pub with_sink : OutPort → Sink → Meaning → Meaning
with_sink outs.Cells s m = record m { cells_out = s }
with_sink outs.Hp s m = record m { hp_out = s }
with_sink outs.Lp s m = record m { lp_out = s }
with_sink outs.Bytes s m = record m { bytes_out = s }
with_sink outs.Report s m = record m { report = s }

-- the same station after a write to the port: an output may then have pending bytes
abbrev pub with_written : OutPort → Sink → Meaning → Meaning
with_written outs.Cells s m = record m { cells_out = s; pending = true }
with_written outs.Hp s m = record m { hp_out = s; pending = true }
with_written outs.Lp s m = record m { lp_out = s; pending = true }
with_written outs.Bytes s m = record m { bytes_out = s; pending = true }
with_written outs.Report s m = record m { report = s }

-- all bytes given to the outputs were passed to their files
abbrev pub flushed : Meaning → Meaning
flushed m = record m { pending = false }

-- the same station with another count of read faults
abbrev pub with_read_faults : ℕ → Meaning → Meaning
with_read_faults n m = record m { read_faults = n }

-- the same station with another count of write faults
abbrev pub with_write_faults : ℕ → Meaning → Meaning
with_write_faults n m = record m { write_faults = n }

-- the same station with another count of close faults
abbrev pub with_close_faults : ℕ → Meaning → Meaning
with_close_faults n m = record m { close_faults = n }

-- A write to the port has failed. It counts as a write fault, and at Report also as a report fault.
abbrev pub with_failed_write : OutPort → ℕ → ℕ → Meaning → Meaning
with_failed_write outs.Cells writes reports m = record m { write_faults = writes }
with_failed_write outs.Hp writes reports m = record m { write_faults = writes }
with_failed_write outs.Lp writes reports m = record m { write_faults = writes }
with_failed_write outs.Bytes writes reports m = record m { write_faults = writes }
with_failed_write outs.Report writes reports m = record m { write_faults = writes; report_faults = reports }

-- a name was requested at a port
abbrev pub asked_source : List ℕ → Source → Source
asked_source name s = record s { asked = Some name }

-- and its file is open for reading
abbrev pub attached_source : List ℕ → List ℕ → Source → Source
attached_source name bytes s = record { asked = Some name; attached = true; left = bytes }

-- n bytes were read
abbrev pub read_source : ℕ → Source → Source
read_source n s = record s { left = drop n s.left }

-- a name was requested at an output port
abbrev pub asked_sink : List ℕ → Sink → Sink
asked_sink name s = record s { asked = Some name }

-- and its file is open for writing, without bytes
abbrev pub created_sink : List ℕ → Sink → Sink
created_sink name s = record { asked = Some name; created = true; closed = false; written = [] }

-- bytes were written, if contents are known
abbrev pub written_sink : Bool → List ℕ → Sink → Sink
written_sink tells bytes s = record s { written = if tells then s.written ++ bytes else s.written }

-- the file of an output port is closed
abbrev pub closed_sink : Sink → Sink
closed_sink s = record s { closed = true }

-- a port where no name was requested
abbrev pub no_source : Source
no_source = record { asked = None; attached = false; left = [] }

-- an output port where no name was requested
abbrev pub no_sink : Sink
no_sink = record { asked = None; created = false; closed = false; written = [] }

-- a station at the start: no name is requested, and only Report is created
abbrev pub fresh : Bool → (List ℕ → List ℕ) → Meaning
fresh tells file = record {
  tells = tells;
  file = file;
  settings = no_source;
  hp = no_source;
  lp = no_source;
  cells = no_source;
  cells_out = no_sink;
  hp_out = no_sink;
  lp_out = no_sink;
  bytes_out = no_sink;
  report = record no_sink { created = true };
  read_faults = 0;
  write_faults = 0;
  close_faults = 0;
  report_faults = 0;
  pending = false;
}

-- a port where no name was requested and nothing is open
pub record IsUnasked (s : Source) : Type 0 where
  pub asked : s.asked ≡ None
  pub attached : s.attached ≡ false

-- an output port where no name was requested, and no file was created or closed
pub record IsUntouched (s : Sink) : Type 0 where
  pub asked : s.asked ≡ None
  pub created : s.created ≡ false
  pub closed : s.closed ≡ false

-- A station at the start of a run. Only Report is open, nothing was written to it, and nothing is pending.
pub record IsFresh (m : Meaning) : Type 0 where
  pub settings : IsUnasked m.settings
  pub hp : IsUnasked m.hp
  pub lp : IsUnasked m.lp
  pub cells : IsUnasked m.cells
  pub cells_out : IsUntouched m.cells_out
  pub hp_out : IsUntouched m.hp_out
  pub lp_out : IsUntouched m.lp_out
  pub bytes_out : IsUntouched m.bytes_out
  pub report_asked : m.report.asked ≡ None
  pub report : m.report.created ≡ true
  pub report_open : m.report.closed ≡ false
  pub report_empty : m.tells ≡ true → m.report.written ≡ []
  pub settled : m.pending ≡ false
