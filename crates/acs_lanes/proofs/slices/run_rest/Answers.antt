use Rattle.std.proofs.Common.{◌∙◌, sym, arith, length-set}
use Rattle.acs_lanes.specs.Lanes16.{all_with, laid}
use Rattle.acs_plain.proofs.Rows.{row_more, row_whole}
use Rattle.acs_plain.proofs.Spread.{spread_step}
use Rattle.acs_lanes.proofs.Shifts.{lane_step}
use Rattle.acs_lanes.proofs.Laid.{close_lanes, laid_lowered}
use Rattle.acs_lanes.proofs.slices.run_rest.Goals as goal

pub lowered-requires : goal.lowered-requires
lowered-requires c = close_lanes c.loop-k.lanes.a c.loop-k.lanes.b c.loop-k.lanes.c c.loop-k.lanes.d c.loop-k.invariant.spread

pub loop-k-preserved : goal.loop-k-preserved
loop-k-preserved c =
    let l = c.loop-k.lanes in
    let n = c.step-low.result.0 in
    let r = c.lowered.result in
    let s = lane_step c.index-pairs-k.result _ _ _ _ _ (laid_lowered l.a l.b l.c l.d r.a r.b r.c r.d c.lowered.ensures.lowered) c.step-low.ensures.step in
    record {
      long = length-set c.loop-k.words c.loop-k.k _ ∙ c.loop-k.invariant.long;
      spread = spread_step _ _ _ _ c.loop-k.invariant.spread s;
      steps = λ start h.
          row_more start c.args.pairs.now c.loop-k.k c.index-pairs-k.result c.index-pairs-k.result (all_with (laid l.a l.b l.c l.d)) c.loop-k.words (all_with (laid n.a n.b n.c n.d)) _ c.loop-k-test.true (omega (arith, c.loop-k-test.true, c.loop-k.invariant.long))
          (sym c.index-pairs-k.is) (c.loop-k.invariant.steps start h) s;
    }

pub returns-clause-steps : goal.returns-clause-steps
returns-clause-steps c = λ start h. row_whole start c.args.pairs.now c.loop-k.k _ c.loop-k.words (omega (arith, c.loop-k-test.false)) c.loop-k.invariant.long (c.loop-k.invariant.steps start h)
