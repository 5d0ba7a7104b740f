use Rattle.std.proofs.Common.{arith, ◌∙◌, ap}
use Rattle.code_paths.proofs.TryAll.{sum_more, tail_whole}
use Rattle.code_paths.specs.Paths.{step_cost}
use Rattle.code_paths.proofs.trial.path_cost.Goals as goal

pub loop-k-preserved : goal.loop-k-preserved
loop-k-preserved c = (
  sum_more c.args.costs.now c.args.path.now c.loop-k.k c.loop-k.sum c.step_cost_of-sum.result c.index-costs-k.result c.loop-k.invariant.0 c.loop-k-test.true c.requires.long c.index-costs-k.is (c.step_cost_of-sum.ensures.is ∙ ap (step_cost c.index-costs-k.result) (tail_whole c.args.path.now c.loop-k.k)),
  omega (arith, c.loop-k.invariant.1, c.step_cost_of-sum.ensures.small),
)
