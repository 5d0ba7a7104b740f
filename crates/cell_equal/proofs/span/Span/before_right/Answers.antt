-- Between two pilots.
use Rattle.std.proofs.Common.{◌∙◌}
use Rattle.cell_equal.proofs.Walk.{between_pilots}
use Rattle.cell_equal.proofs.span.Span.before_right.Goals as goal

pub returns-clause-is : goal.returns-clause-is
returns-clause-is c = λ m l cells few a. c.between.ensures.is ∙ between_pilots m l cells c.args.k c.args.self.now few c.requires.before a
