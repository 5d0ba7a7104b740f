use Rattle.std.proofs.Common.{◌≡◌, ◌++◌, take}
use Rattle.measure_report.specs.Text.{lines}
use Rattle.measurer.proofs.measure_out.put_super_frame.Given as goal

abbrev pub invariant-loop-number : goal.invariant-loop-number
invariant-loop-number l = l.out ≡ l.initial.out ++ take l.number (lines l.sums)
