use Rattle.std.proofs.Common.{◌-◌, ◌≤◌, length, take}
use Rattle.inner_decoder.specs.Events.{ats}
use Rattle.inner_decoder.proofs.Runs.{RunsTo}
use Rattle.inner_decoder.proofs.branch.run.Given as goal

abbrev pub invariant-loop-taken : goal.invariant-loop-taken
invariant-loop-taken g l = (l.taken ≤ length l.pairs) × RunsTo 2048 l.initial.decoder l.initial.to l.decoder l.to (ats l.events.items) (take l.taken l.pairs)

abbrev pub decreases-loop-taken : goal.decreases-loop-taken
decreases-loop-taken g l = length l.pairs - l.taken
