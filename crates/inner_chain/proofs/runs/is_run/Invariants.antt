use Rattle.std.proofs.Common.{◌+◌, ◌*◌, ◌<◌, ℕ}
use Rattle.inner_chain.specs.CostTables.{FollowAll}
use Rattle.inner_chain.proofs.runs.is_run.Given as goal

abbrev pub invariant-loop-word : goal.invariant-loop-word
invariant-loop-word l = (u : ℕ) → u < l.word → FollowAll l.entries (2 * l.steps) (2 * (21 * l.run * l.steps)) u (2 * ((21 * l.run + u) * l.steps))
