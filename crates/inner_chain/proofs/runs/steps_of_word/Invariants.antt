use Rattle.std.proofs.Common.{◌+◌, ◌*◌, ◌<◌, ℕ}
use Rattle.inner_chain.specs.CostTables.{FollowAll}
use Rattle.inner_chain.proofs.runs.steps_of_word.Given as goal

abbrev pub invariant-loop-run : goal.invariant-loop-run
invariant-loop-run l = (r u : ℕ) → r < l.run → u < 21 → FollowAll l.entries (2 * l.steps) (2 * (21 * r * l.steps)) u (2 * ((21 * r + u) * l.steps))
