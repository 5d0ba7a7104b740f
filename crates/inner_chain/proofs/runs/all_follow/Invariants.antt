use Rattle.std.proofs.Common.{◌+◌, ◌<◌, ℕ}
use Rattle.std.specs.Prelude.{slice_index}
use Rattle.inner_chain.specs.CostTables.{Follows}
use Rattle.inner_chain.proofs.runs.all_follow.Given as goal

abbrev pub invariant-loop-k : goal.invariant-loop-k
invariant-loop-k l = (i : ℕ) → i < l.k → Follows (slice_index l.entries (l.first + i)) l.words (slice_index l.entries (l.at + i))
