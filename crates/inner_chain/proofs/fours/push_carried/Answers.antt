use Rattle.std.proofs.Common.{arith}
use Rattle.inner_chain.proofs.Quads.{carried_more}
use Rattle.inner_chain.proofs.fours.push_carried.Goals as goal

pub loop-q-preserved : goal.loop-q-preserved
loop-q-preserved g c = record {
  labels = carried_more _ _ _ _ _ _ _ _ c.loop-q.invariant.labels c.source.ensures.carried c.source.ensures.in_symbol c.push_reserved.ensures.items;
  len = omega arith;
  capacity = omega arith;
}
