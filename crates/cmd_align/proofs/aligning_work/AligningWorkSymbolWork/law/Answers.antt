use Rattle.cmd_align.proofs.Places.{part_gives}
use Rattle.cmd_align.proofs.aligning_work.AligningWorkSymbolWork.law.Goals as goal

pub returns : goal.returns
returns g c = record {
  part = λ bytes more given within gives. part_gives c.symbols.ensures.same c.symbols.ensures.tps c.more_bytes.ensures.stays c.args.self.now.settings bytes more given within gives;
}
