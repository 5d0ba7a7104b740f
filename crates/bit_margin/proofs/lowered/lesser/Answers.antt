use Rattle.bit_margin.proofs.Sixteen.{lesser_at, lesser_len}
use Rattle.bit_margin.proofs.lowered.lesser.Goals as goal

pub returns-clause-len : goal.returns-clause-len
returns-clause-len c = lesser_len c.args.xs c.args.ys c.requires.xs c.requires.ys

pub returns-clause-is : goal.returns-clause-is
returns-clause-is c = lesser_at c.args.xs c.args.ys c.requires.xs c.requires.ys
