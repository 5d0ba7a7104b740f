use Rattle.std.proofs.Common.{◌≡◌, length}
use Rattle.inner_chain.specs.Tables.{AreGathered}
use Rattle.inner_chain.proofs.gather.write_labels.Given as goal

abbrev pub invariant-loop-place : goal.invariant-loop-place
invariant-loop-place g l = record {
  long : length l.to ≡ length l.initial.to;
  labels : AreGathered l.bits l.entries l.place g.row.COUNT l.to;
}
