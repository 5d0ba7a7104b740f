-- The end of a modulation: its lines, and closing its output.
use Rattle.std.proofs.Common.{◌≡◌, ℕ, Bool, true, false, if◌then◌else◌, List, [], ◌++◌, length, Ok, Err, refl, ap, sym, ◌∙◌, arith}
use Rattle.std.proofs.lemmas.List.{append-nil, take_all}
use Rattle.station_core.specs.Meaning.{Meaning, with_sink, closed_sink, with_close_faults}
use Rattle.station_core.specs.declared.ports.OutPort.TheVariants.{Cells}
use Rattle.cmd_modulate.specs.declared.counts.TransmissionCounts.{TransmissionCounts}
use Rattle.cmd_base.specs.declared.refusal.Refusal.TheVariants.{WriteFault}
use Rattle.cmd_modulate.specs.ModulateCommand.{transmission_lines}
use Rattle.cmd_base.specs.Lines.{WritesLines}
use Rattle.cmd_modulate.specs.Reporting.{Finishes}

pub writes_none : (b : Bool) (text : List ℕ) (m : Meaning) → b ≡ false → WritesLines (if b then text else []) m m (Ok tt)
writes_none b text m is = record {
  others = refl;
  later_report = omega arith;
  written = λ t. sym (ap (λ (x : Bool). m.report.written ++ (if x then text else [])) is ∙ append-nil m.report.written);
}

-- the lines were written, and the output could not be closed
pub closes_late : (two : Bool) (counts : TransmissionCounts) (m m' m'' : Meaning)
    → WritesLines (transmission_lines two counts) m m' (Ok tt)
    → m'' ≡ with_close_faults m''.close_faults (with_sink Cells (closed_sink m'.cells_out) m')
    → Finishes two counts m m'' (Err WriteFault)
closes_late two counts m m' m'' writes closes =
    let text : List ℕ = transmission_lines two counts in
    let report : m''.report.written ≡ m'.report.written = ap (λ (x : Meaning). x.report.written) closes in
    let writes_same : m''.write_faults ≡ m'.write_faults = ap (λ (x : Meaning). x.write_faults) closes in
    let faults : m''.report_faults ≡ m'.report_faults = ap (λ (x : Meaning). x.report_faults) closes in
    record {
      others =
          closes
          ∙ ap (λ (x : Meaning). with_close_faults m''.close_faults (with_sink Cells (closed_sink x.cells_out) x)) writes.others
          ∙ ap (λ (l : List ℕ). record m { cells_out = record m.cells_out { closed = true }; report = record m.report { written = l }; write_faults = m'.write_faults; close_faults = m''.close_faults; report_faults = m'.report_faults }) (sym report)
          ∙ ap (λ (n : ℕ). record m { cells_out = record m.cells_out { closed = true }; report = record m.report { written = m''.report.written }; write_faults = n; close_faults = m''.close_faults; report_faults = m'.report_faults }) (sym writes_same)
          ∙ ap (λ (n : ℕ). record m { cells_out = record m.cells_out { closed = true }; report = record m.report { written = m''.report.written }; write_faults = m''.write_faults; close_faults = m''.close_faults; report_faults = n }) (sym faults);
      later_report = omega (arith, writes.later_report, faults);
      written = λ t. (length text, report ∙ writes.written t ∙ ap (λ (l : List ℕ). m.report.written ++ l) (sym (take_all (length text) text (omega arith))));
    }
