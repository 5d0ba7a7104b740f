-- One carrier more has its index.
use Rattle.std.proofs.Common.{arith}
use Rattle.frame_build.proofs.Indices.{word_indices_more}
use Rattle.frame_build.proofs.word_carriers.word_indices.Goals as goal

pub loop-k-preserved : goal.loop-k-preserved
loop-k-preserved g c = record {
  indices = word_indices_more _ _ _ _ _ _ c.loop-k.invariant.indices c.word_index_at.ensures c.push_reserved.ensures.items;
  len = omega arith;
  room = omega arith;
}
