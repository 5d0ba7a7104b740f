use Rattle.std.proofs.Common.{arith}
use Rattle.inner_chain.proofs.Gathering.{push_more}
use Rattle.inner_chain.proofs.gather.push_labels.Goals as goal

pub loop-place-preserved : goal.loop-place-preserved
loop-place-preserved g c = record {
  labels = push_more _ _ _ _ _ _ _ _ c.loop-place.invariant.labels c.gathered.ensures c.push_reserved.ensures.items;
  len = omega arith;
  capacity = omega arith;
}
