use Rattle.std.proofs.Common.{◌≡◌, ◌<◌, ◌≤◌, ◌+◌, ℕ, get_or, false}
use Rattle.survivor_ring.proofs.plain.shift.Given as goal

abbrev pub invariant-loop-k : goal.invariant-loop-k
invariant-loop-k l = ((j : ℕ) → j < l.k → get_or l.row j false ≡ get_or l.fn.row (j + l.number) false) × ((j : ℕ) → l.k ≤ j → get_or l.row j false ≡ get_or l.fn.row j false)
