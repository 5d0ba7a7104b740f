use Rattle.std.proofs.Common.{◌∙◌, arith}
use Rattle.acs_lanes.proofs.Orders.{twelve_more}
use Rattle.acs_lanes.proofs.word_order.order_words.Goals as goal

pub loop-k-preserved : goal.loop-k-preserved
loop-k-preserved c =
    let k = c.loop-k.k in
    let v = c.loop-k.invariant in
    let e = c.order_twelve.ensures in
    record {
      few = omega (arith, c.loop-k-test.true, v.long);
      long = e.room ∙ v.long;
      kept = λ i m. e.above i (omega (arith, m)) ∙ v.kept i (omega (arith, m));
      ordered = twelve_more k _ _ _ e.here e.below v.kept v.ordered;
    }
