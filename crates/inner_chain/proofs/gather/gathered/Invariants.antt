use Rattle.std.proofs.Common.{◌+◌, ◌-◌}
use Rattle.inner_chain.specs.Tables.{IsGathered}
use Rattle.inner_chain.proofs.gather.gathered.Given as goal

abbrev pub invariant-loop-e : goal.invariant-loop-e
invariant-loop-e g l = IsGathered l.bits l.entries (l.first + (g.row.COUNT - l.e)) l.e l.label
