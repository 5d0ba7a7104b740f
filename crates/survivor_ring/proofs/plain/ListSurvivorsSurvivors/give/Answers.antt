use Rattle.std.proofs.Common.{◌∙◌, ap, ◌++◌, take}
use Rattle.survivor_ring.specs.Rows.{bits_of_row}
use Rattle.survivor_ring.proofs.RowSteps.{row_read, rows_shifted, take_within}
use Rattle.survivor_ring.proofs.plain.ListSurvivorsSurvivors.give.Goals as goal

pub returns-clause-list : goal.returns-clause-list
returns-clause-list g c = λ n l t. rows_shifted _ c.args.self.now.now.items _ c.args.number c.args.self.now.waiting c.args.self.now.now_sized c.shift_rows.ensures.sized c.shift_rows.ensures.each n l

pub returns-clause-given : goal.returns-clause-given
returns-clause-given g c = λ n l t.
    c.append.ensures
    ∙ ap (λ z. c.args.to.now ++ take c.args.number z) (c.deref.ensures.value ∙ row_read _ c.args.self.now.now.items c.args.self.now.first c.index.result.now c.args.self.now.now_sized c.args.self.now.below c.index.ensures)
    ∙ ap (λ z. c.args.to.now ++ z) (take_within c.args.number c.args.self.now.waiting (bits_of_row c.args.self.now.now.items c.args.self.now.first) c.requires.within
    ∙ c.requires.alike c.args.self.now.first n c.args.self.now.below l c.args.self.now.lives t)
