use Rattle.std.proofs.Common.{◌∙◌, sym, arith, length-set}
use Rattle.acs_plain.proofs.Spread.{spread_alive, spread_step}
use Rattle.acs_plain.proofs.Rows.{row_more}
use Rattle.acs_plain.proofs.acs.Acs.run.Goals as goal

pub step-requires-clause-some : goal.step-requires-clause-some
step-requires-clause-some g c = spread_alive _ c.loop-k.invariant.spread

pub loop-k-preserved : goal.loop-k-preserved
loop-k-preserved g c = record {
  long = length-set c.loop-k.words c.loop-k.k c.step.result ∙ c.loop-k.invariant.long;
  spread = spread_step _ _ _ _ c.loop-k.invariant.spread c.step.ensures.step;
  steps =
      row_more c.args.sums.now c.args.pairs.now c.loop-k.k c.index-pairs-k.result c.index-pairs-k.result c.loop-k.sums c.loop-k.words c.step.new.sums c.step.result c.loop-k-test.true (omega (arith, c.loop-k-test.true, c.loop-k.invariant.long))
      (sym c.index-pairs-k.is) c.loop-k.invariant.steps c.step.ensures.step;
}
