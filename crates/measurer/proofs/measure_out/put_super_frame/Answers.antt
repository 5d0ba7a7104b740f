use Rattle.std.proofs.Common.{arith}
use Rattle.measure_report.specs.Text.{lines}
use Rattle.measurer.proofs.Lining.{put_next, lines_all, frame_few}
use Rattle.measurer.proofs.measure_out.put_super_frame.Goals as goal

pub loop-number-preserved : goal.loop-number-preserved
loop-number-preserved c =
    put_next c.args.out.now c.loop-number.out c.put_line.new.out (lines c.args.sums.now) c.loop-number.number c.line.result c.loop-number.invariant c.line.ensures.line c.line.ensures.past c.put_line.ensures.some c.put_line.ensures.none

pub returns : goal.returns
returns c = record { lines = lines_all c.args.out.now c.loop-number.out (lines c.args.sums.now) c.loop-number.number c.loop-number.invariant (omega (arith, c.loop-number-test.false, c.loop-number.auto.number-end, frame_few c.args.sums.now)) }
