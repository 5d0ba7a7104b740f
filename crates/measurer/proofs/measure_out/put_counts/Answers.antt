use Rattle.std.proofs.Common.{arith}
use Rattle.rx_report.specs.Text.{closing_lines}
use Rattle.measurer.proofs.Lining.{put_next, lines_all, counts_few}
use Rattle.measurer.proofs.measure_out.put_counts.Goals as goal

pub loop-number-preserved : goal.loop-number-preserved
loop-number-preserved c =
    put_next c.args.out.now c.loop-number.out c.put_line.new.out (closing_lines c.args.counts.now) c.loop-number.number c.line.result c.loop-number.invariant c.line.ensures.line c.line.ensures.past c.put_line.ensures.some c.put_line.ensures.none

pub returns : goal.returns
returns c = record { lines = lines_all c.args.out.now c.loop-number.out (closing_lines c.args.counts.now) c.loop-number.number c.loop-number.invariant (omega (arith, c.loop-number-test.false, c.loop-number.auto.number-end, counts_few c.args.counts.now)) }
