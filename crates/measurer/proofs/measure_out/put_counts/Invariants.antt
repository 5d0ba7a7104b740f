use Rattle.std.proofs.Common.{◌≡◌, ◌++◌, take}
use Rattle.rx_report.specs.Text.{closing_lines}
use Rattle.measurer.proofs.measure_out.put_counts.Given as goal

abbrev pub invariant-loop-number : goal.invariant-loop-number
invariant-loop-number l = l.out ≡ l.initial.out ++ take l.number (closing_lines l.counts)
