use Rattle.std.proofs.Common.{◌∙◌, ◌+◌, ◌*◌, subst, arith}
use Rattle.acs_lanes.specs.Phases.{IsLow}
use Rattle.acs_lanes.proofs.Rows16.{pair_at, row_at, steps_more}
use Rattle.acs_lanes.proofs.six.run_twelves.Goals as goal

pub six_steps-lanes-requires-clause-sums : goal.six_steps-lanes-requires-clause-sums
six_steps-lanes-requires-clause-sums c = λ j m.
    let k = c.loop-k.k in
    let x = pair_at c.args.pairs.now (6 * k + j) (omega (arith, c.loop-k-test.true, m)) in
    (x.pair, c.loop-k.invariant.sums (6 * k + j) (omega arith) (omega (arith, c.loop-k-test.true, m)) ∙ x.sums, λ t. subst IsLow x.is (c.write_sums-low.ensures.low t (6 * k + j) x.pair (omega (arith, c.loop-k-test.true, m))))

pub loop-k-preserved : goal.loop-k-preserved
loop-k-preserved c =
    let k = c.loop-k.k in
    let t = c.loop-k-test.true in
    let v = c.loop-k.invariant in
    let e = c.six_steps-lanes.ensures in
    record {
      few = omega (arith, t);
      long = e.room ∙ v.long;
      spread = e.spread;
      sums = λ i m l. e.above i (omega (arith, m)) ∙ v.sums i (omega (arith, m)) l;
      steps = steps_more _ _ _ c.args.pairs.now k _ _ (omega (arith, t)) (λ i m l. v.sums i m (omega (arith, t, l))) e.steps e.below v.steps;
    }

pub returns-clause-steps : goal.returns-clause-steps
returns-clause-steps c =
    let v = c.loop-k.invariant in
    row_at _ _ (omega (arith, v.few, c.loop-k-test.false)) _ c.args.pairs.now _ _
    (v.steps c.order_words.new.words (c.order_words.ensures.room ∙ v.long) (λ i m. c.order_words.ensures.ordered i (omega (arith, m, v.few, v.long))))

pub returns-clause-room : goal.returns-clause-room
returns-clause-room c = c.order_words.ensures.room ∙ c.loop-k.invariant.long
