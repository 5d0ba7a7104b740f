use Rattle.std.proofs.Common.{◌∙◌, ap}
use Rattle.load_gen.specs.Draws.{after}
use Rattle.load_gen.proofs.Steps.{draws_add}
use Rattle.load_gen.proofs.load.Load.burst.Goals as goal

pub returns-clause-next : goal.returns-clause-next
returns-clause-next c = c.draw-second.ensures.next ∙ ap (after 1) c.draw-first.ensures.next ∙ draws_add 1 1 _
