use Rattle.measure_report.specs.Text.{lines}
use Rattle.measurer.proofs.Lining.{lines_more}
use Rattle.measurer.proofs.measurer.close_super_frame.Goals as goal

pub returns-clause-lines : goal.returns-clause-lines
returns-clause-lines g c = λ moment bytes given stand frames done h. record {
  more = lines c.super_frame.result;
  is = c.put_super_frame.ensures.lines;
  then = lines_more c.args.cells.now.settings bytes c.args.meter.now.current.number given c.super_frame.result h (c.super_frame.ensures.sums moment bytes stand frames done);
}
