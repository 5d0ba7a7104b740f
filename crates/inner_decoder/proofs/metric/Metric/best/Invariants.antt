use Rattle.std.proofs.Common.{◌≡◌, ℕ, ◌<◌}
use Rattle.std.specs.Prelude.{slice_index, IsTrue}
use Rattle.acs_plain.specs.Steps.{alive}
use Rattle.inner_decoder.proofs.metric.Metric.best.Given as goal

abbrev pub invariant-loop-n : goal.invariant-loop-n
invariant-loop-n l = (k : ℕ) → k < l.n → IsTrue (alive l.self-inside.sums k) → slice_index l.self-inside.sums.cost k ≡ l.low → ⊥
