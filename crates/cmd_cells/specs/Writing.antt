-- A write of the work at a port.
use Rattle.std.specs.Prelude.{◌≡◌, ℕ, Bool, List, take, Result, Ok, Err}
use Rattle.station_core.specs.Meaning.{Meaning, sink_at, with_sink, written_sink, with_failed_write}
use Rattle.station_core.specs.declared.ports.OutPort.{OutPort}
use Rattle.station_core.specs.declared.ports.OutPort.TheVariants as outs
use Rattle.cmd_cells.specs.declared.run_error.RunError.{RunError}
use Rattle.cmd_cells.specs.declared.run_error.RunError.TheVariants.{WriteFault}

-- whether an output has pending bytes after a write at the port; a write to Report does not change this
abbrev pub with_pending : OutPort → Bool → Meaning → Meaning
with_pending outs.Cells waits m = record m { pending = waits }
with_pending outs.Hp waits m = record m { pending = waits }
with_pending outs.Lp waits m = record m { pending = waits }
with_pending outs.Bytes waits m = record m { pending = waits }
with_pending outs.Report waits m = m

-- bytes were written at a port, or a prefix of them
abbrev pub WritesAt : OutPort → List ℕ → Meaning → Meaning → Result (Unit {0}) RunError → Type 0
WritesAt port bytes old new (Ok u) = new ≡ with_pending port new.pending (with_sink port
    (written_sink old.tells bytes (sink_at port old)) old)
WritesAt port bytes old new (Err r) =
    (r ≡ WriteFault) × (k : ℕ)
    × (new ≡ with_pending port new.pending (with_failed_write port new.write_faults new.report_faults
    (with_sink port (written_sink old.tells (take k bytes) (sink_at port old)) old)))
