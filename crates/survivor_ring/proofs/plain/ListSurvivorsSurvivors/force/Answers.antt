use Rattle.std.proofs.Common.{◌∙◌, ap, ◌++◌, take}
use Rattle.survivor_ring.proofs.RowSteps.{row_read}
use Rattle.survivor_ring.proofs.plain.ListSurvivorsSurvivors.force.Goals as goal

pub returns-clause-given : goal.returns-clause-given
returns-clause-given g c = c.append.ensures ∙ ap (λ z. c.args.to.now ++ take c.args.self.now.waiting z) (c.deref.ensures.value ∙ row_read _ c.args.self.now.now.items c.args.end c.index.result.now c.args.self.now.now_sized c.requires.below c.index.ensures)
