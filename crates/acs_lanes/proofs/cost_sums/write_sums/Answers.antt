use Rattle.std.proofs.Common.{◌∙◌, ◌*◌, sym, arith, ap, length}
use Rattle.acs_lanes.proofs.FourSums.{all_low, four_more, most_more}
use Rattle.acs_lanes.proofs.cost_sums.write_sums.Goals as goal

pub store-requires-clause-lanes : goal.store-requires-clause-lanes
store-requires-clause-lanes c = ap length (c.words_of.ensures c.index-pairs-at.result c.index-pairs-at-in-loop-k.result c.index-pairs-at-in-loop-k-2.result c.index-pairs-at-in-loop-k-3.result c.four_sums-sums.ensures)

pub loop-k-preserved : goal.loop-k-preserved
loop-k-preserved c =
    let k = c.loop-k.k in
    let ea = sym c.index-pairs-at.is in
    let eb = sym c.index-pairs-at-in-loop-k.is in
    let ec = sym c.index-pairs-at-in-loop-k-2.is in
    let ed = sym c.index-pairs-at-in-loop-k-3.is in
    record {
      few = omega (arith, c.loop-k-test.true);
      long = c.store.ensures.room ∙ c.loop-k.invariant.long;
      lanes = c.higher-most.ensures.long;
      sums = four_more c.args.pairs.now k _ _ _ _ _ _ _ (omega (arith, c.loop-k-test.true)) ea eb ec ed (c.words_of.ensures c.index-pairs-at.result c.index-pairs-at-in-loop-k.result c.index-pairs-at-in-loop-k-2.result c.index-pairs-at-in-loop-k-3.result c.four_sums-sums.ensures) c.store.ensures.here c.store.ensures.below c.loop-k.invariant.sums;
      most = most_more c.args.pairs.now k _ _ _ _ _ _ _ (omega (arith, c.loop-k-test.true)) ea eb ec ed c.four_sums-sums.ensures c.higher-most.ensures.is c.loop-k.invariant.most;
    }

pub returns-clause-low : goal.returns-clause-low
returns-clause-low c = λ t i d l. all_low c.args.pairs.now (4 * c.loop-k.k) c.loop-k.most c.loop-k.invariant.most (c.are_low.ensures t) i d (omega (arith, l, c.loop-k.invariant.few, c.loop-k-test.false))
