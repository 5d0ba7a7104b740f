-- The state of a station in memory, and the faults that it is set up to produce.
use Rattle.std.specs.Prelude.{◌≡◌, ℕ, true, List}
use Rattle.station_core.specs.declared.memory.MemoryStation.{MemoryStation}
use Rattle.station_core.specs.declared.memory.Failing.{Failing}
use Rattle.station_core.specs.declared.ports.InPort.{InPort}
use Rattle.station_core.specs.declared.ports.InPort.TheVariants as ins
use Rattle.station_core.specs.declared.ports.OutPort.{OutPort}
use Rattle.station_core.specs.declared.ports.OutPort.TheVariants as outs
use Rattle.station_core.specs.Meaning.{Meaning}
use Rattle.station_core.specs.Files.{Files, found}
use Rattle.station_core.specs.Sources.{source_of}
use Rattle.station_core.specs.Sinks.{sink_of}

-- the state of a station in memory; its contents are known
unfoldable pub memory_meaning : MemoryStation → Meaning
memory_meaning m = record {
  tells = true;
  file = found m.files.items;
  settings = source_of m.files.items m.settings;
  hp = source_of m.files.items m.hp;
  lp = source_of m.files.items m.lp;
  cells = source_of m.files.items m.cells;
  cells_out = sink_of m.cells_out;
  hp_out = sink_of m.hp_out;
  lp_out = sink_of m.lp_out;
  bytes_out = sink_of m.bytes_out;
  report = sink_of m.report;
  read_faults = m.read_faults;
  write_faults = m.write_faults;
  close_faults = m.close_faults;
  report_faults = m.report.faults;
  pending = m.pending;
}

-- the files
abbrev pub files_of : MemoryStation → Files
files_of m = m.files.items

-- the calls set to fail
abbrev pub failing_of : MemoryStation → List Failing
failing_of m = m.failing.items

-- the most bytes that one read returns
abbrev pub most_of : MemoryStation → ℕ
most_of m = m.most_per_read

-- the most bytes that a port can hold
abbrev pub room_of : OutPort → MemoryStation → ℕ
room_of outs.Cells m = m.cells_out.room
room_of outs.Hp m = m.hp_out.room
room_of outs.Lp m = m.lp_out.room
room_of outs.Bytes m = m.bytes_out.room
room_of outs.Report m = m.report.room

-- the number of an input port
abbrev pub in_number : InPort → ℕ
in_number ins.Settings = 0
in_number ins.Hp = 1
in_number ins.Lp = 2
in_number ins.Cells = 3

-- the number of an output port
abbrev pub out_number : OutPort → ℕ
out_number outs.Cells = 0
out_number outs.Hp = 1
out_number outs.Lp = 2
out_number outs.Bytes = 3
out_number outs.Report = 4

-- the reads tried at each port
abbrev pub reads_of : MemoryStation → List ℕ
reads_of m = m.reads

-- the writes tried at each port
abbrev pub writes_of : MemoryStation → List ℕ
writes_of m = m.writes

-- the set-up of a station in memory does not change
pub record IsSamePlan (old new : MemoryStation) : Type 0 where
  pub files : files_of new ≡ files_of old
  pub failing : failing_of new ≡ failing_of old
  pub most : most_of new ≡ most_of old
  pub rooms : (port : OutPort) → room_of port new ≡ room_of port old
