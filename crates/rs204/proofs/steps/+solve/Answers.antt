use Rattle.std.proofs.Common.{refl, rules}
use Rattle.rs204.proofs.Solving.{solve_whole}
use Rattle.rs204.proofs.steps.+solve.Goals as goal

pub returns-clause-solved : goal.returns-clause-solved
returns-clause-solved t c =
    solve_whole c.args.places.now c.args.moments.now c.take_out.new.moments c.solve.new.values c.unscale-sum.new.values c.args.values.now c.unscale-sum.result _ _ _ _ _
    (search rules) c.requires.moments c.requires.values c.take_out.ensures.size (λ k. (c.type_inv.places k).fits) refl refl refl c.take_out.ensures.each (search rules) c.solve.ensures.solved refl refl (search rules) c.unscale-sum.ensures.unscaled
