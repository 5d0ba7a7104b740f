use Rattle.std.proofs.Common.{refl}
use Rattle.inner_chain.proofs.TwoSteps.{word_set}
use Rattle.inner_chain.proofs.step_pairs.write_one.Goals as goal

pub returns : goal.returns
returns c = λ n. word_set c.args.costs.now c.args.here c.args.next n c.args.first c.args.to.now _ _ c.requires.room (record { x_is = refl; y_is = refl }) (record { x_is = refl; y_is = refl })
