use Rattle.std.proofs.Common.{◌≡◌, ◌+◌}
use Rattle.std.specs.Prelude.{vec_len, vec_capacity}
use Rattle.inner_chain.specs.Tables.{AppendsGathered}
use Rattle.inner_chain.proofs.gather.push_labels.Given as goal

abbrev pub invariant-loop-place : goal.invariant-loop-place
invariant-loop-place g l = record {
  labels : AppendsGathered l.bits l.entries l.place g.row.COUNT l.initial.to.items l.to.items;
  len : vec_len l.to ≡ vec_len l.initial.to + l.place;
  capacity : vec_capacity l.to ≡ vec_capacity l.initial.to;
}
