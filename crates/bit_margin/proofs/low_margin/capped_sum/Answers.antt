use Rattle.bit_margin.proofs.Capped.{capped_at, capped_len}
use Rattle.bit_margin.proofs.low_margin.capped_sum.Goals as goal

pub returns-clause-len : goal.returns-clause-len
returns-clause-len c = capped_len c.args.before c.args.behind c.requires.before c.requires.behind

pub returns-clause-is : goal.returns-clause-is
returns-clause-is c = capped_at c.args.before c.args.behind c.requires.before c.requires.behind c.requires.fits
