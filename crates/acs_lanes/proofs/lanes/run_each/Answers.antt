use Rattle.std.proofs.Common.{◌∙◌, sym, arith, length-set}
use Rattle.acs_plain.proofs.Spread.{spread_alive, spread_step}
use Rattle.acs_plain.proofs.Rows.{row_more}
use Rattle.acs_lanes.proofs.lanes.run_each.Goals as goal

pub step_one-requires-clause-some : goal.step_one-requires-clause-some
step_one-requires-clause-some c = spread_alive _ c.loop-k.invariant.spread

pub loop-k-preserved : goal.loop-k-preserved
loop-k-preserved c = record {
  long = length-set c.loop-k.words c.loop-k.k c.step_one.result ∙ c.loop-k.invariant.long;
  spread = spread_step _ _ _ _ c.loop-k.invariant.spread c.step_one.ensures.step;
  steps =
      row_more c.args.sums.now c.args.pairs.now c.loop-k.k c.index-pairs-k.result c.index-pairs-k.result c.loop-k.sums c.loop-k.words c.step_one.new.sums c.step_one.result c.loop-k-test.true (omega (arith, c.loop-k-test.true, c.loop-k.invariant.long))
      (sym c.index-pairs-k.is) c.loop-k.invariant.steps c.step_one.ensures.step;
}
