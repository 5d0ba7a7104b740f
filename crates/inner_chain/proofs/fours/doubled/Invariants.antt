use Rattle.std.proofs.Common.{◌≡◌, ◌+◌, ◌<◌, ℕ, length}
use Rattle.std.specs.Prelude.{slice_index}
use Rattle.inner_chain.proofs.fours.doubled.Given as goal

abbrev pub invariant-loop-k : goal.invariant-loop-k
invariant-loop-k l = (length l.twice ≡ 252)
    × ((i : ℕ) → i < l.k → (slice_index l.twice i ≡ slice_index l.bytes (l.first + i)) × (slice_index l.twice (126 + i) ≡ slice_index l.bytes (l.first + i)))
