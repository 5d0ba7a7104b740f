use Rattle.frame_build.proofs.Cells.{repeats}
use Rattle.frame_build.proofs.laws.symbols_repeat.Goals as goal

pub returns : goal.returns
returns c = λ now next labels. repeats now next c.args.m labels
