-- The carriers so far have their indices.
use Rattle.std.proofs.Common.{◌≡◌}
use Rattle.std.specs.Prelude.{vec_capacity, vec_len}
use Rattle.frame_build.specs.Words.{AreWordIndices}
use Rattle.frame_build.proofs.word_carriers.word_indices.Given as goal

abbrev pub invariant-loop-k : goal.invariant-loop-k
invariant-loop-k g l = record {
  indices : AreWordIndices g.M.Carriers.MODE l.l l.list.items l.k;
  len : vec_len l.list ≡ l.k;
  room : vec_capacity l.list ≡ g.M.Carriers.K;
}
