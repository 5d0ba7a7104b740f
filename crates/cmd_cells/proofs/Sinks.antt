-- The effect of the work's calls on the output ports.
use Rattle.std.proofs.Common.{◌≡◌, ℕ, Bool, refl, ◌∙◌, sym, ap, subst}
use Rattle.station_core.specs.Meaning.{Meaning, Source, Sink, sink_at}
use Rattle.station_core.specs.declared.ports.OutPort.{OutPort}
use Rattle.station_core.specs.declared.ports.OutPort.TheVariants as outs
use Rattle.cmd_cells.specs.Work.{AreOpen, WritesOnly}
use Rattle.cmd_cells.specs.Cells.{KeepsOthers}

-- reading changes none of them
pub read_sink : (m : Meaning) (source : Source) (port : OutPort) → sink_at port (record m { cells = source }) ≡ sink_at port m
read_sink m source outs.Cells = refl
read_sink m source outs.Hp = refl
read_sink m source outs.Lp = refl
read_sink m source outs.Bytes = refl
read_sink m source outs.Report = refl

pub fault_sink : (m : Meaning) (source : Source) (n : ℕ) (port : OutPort) → sink_at port (record m { cells = source; read_faults = n }) ≡ sink_at port m
fault_sink m source n outs.Cells = refl
fault_sink m source n outs.Hp = refl
fault_sink m source n outs.Lp = refl
fault_sink m source n outs.Bytes = refl
fault_sink m source n outs.Report = refl

-- the work changes only their content
pub kept_sink : (m m' : Meaning) → KeepsOthers m m' → (port : OutPort) → sink_at port m' ≡ record (sink_at port m) { written = (sink_at port m').written }
kept_sink m m' p outs.Cells = ap (λ (x : Meaning). x.cells_out) p
kept_sink m m' p outs.Hp = ap (λ (x : Meaning). x.hp_out) p
kept_sink m m' p outs.Lp = ap (λ (x : Meaning). x.lp_out) p
kept_sink m m' p outs.Bytes = ap (λ (x : Meaning). x.bytes_out) p
kept_sink m m' p outs.Report = ap (λ (x : Meaning). x.report) p

pub keeps_again : (a b c : Meaning) → KeepsOthers a b → KeepsOthers b c → KeepsOthers a c
keeps_again a b c p q =
    q ∙ ap (λ (x : Meaning). record x {
      cells = record x.cells { left = c.cells.left };
      cells_out = record x.cells_out { written = c.cells_out.written };
      hp_out = record x.hp_out { written = c.hp_out.written };
      lp_out = record x.lp_out { written = c.lp_out.written };
      bytes_out = record x.bytes_out { written = c.bytes_out.written };
      report = record x.report { written = c.report.written };
      read_faults = c.read_faults;
      write_faults = c.write_faults;
      report_faults = c.report_faults;
      pending = c.pending;
    }) p

-- only writing
pub keeps_written : (a b : Meaning) → WritesOnly a b → KeepsOthers a b
keeps_written a b p = subst (λ (x : Meaning). KeepsOthers a x) (sym p) refl

-- the ports stay open
pub still_open : (outputs : OutPort → Bool) (m m' : Meaning) → KeepsOthers m m' → AreOpen outputs m → AreOpen outputs m'
still_open outputs m m' p o = record {
  made = λ port is. ap (λ (x : Sink). x.created) (kept_sink m m' p port) ∙ o.made port is;
  opened = λ port is. ap (λ (x : Sink). x.closed) (kept_sink m m' p port) ∙ o.opened port is;
  report = ap (λ (x : Meaning). x.report.created) p ∙ o.report;
  report_open = ap (λ (x : Meaning). x.report.closed) p ∙ o.report_open;
}
