use Rattle.std.proofs.Common.{arith}
use Rattle.puncture.proofs.TwoBytes.{together, word_x, word_y}
use Rattle.puncture.proofs.periods.PeriodTable.punctured.Goals as goal

pub returns-clause-bits : goal.returns-clause-bits
returns-clause-bits c = λ t p.
    together c.args.rate t c.args.x c.args.y _ _ _ ((c.requires.table.all_ends.at c.args.start c.requires.place).count t p)
    (word_x c.args.rate c.args.start c.args.x c.args.self.now.words c.requires.table.all_words c.requires.place (omega (arith, c.ranges.x.fits)) t p)
    (word_y c.args.rate c.args.start c.args.y c.args.self.now.words c.requires.table.all_words c.requires.place (omega (arith, c.ranges.y.fits)) t p)
