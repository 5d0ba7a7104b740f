use Rattle.std.proofs.Common.{◌≡◌, ◌<◌, ℕ, get_or, length}
use Rattle.rs204.proofs.values.terms_of.Given as goal

abbrev pub invariant-loop-j : goal.invariant-loop-j
invariant-loop-j l = (length l.terms ≡ 17) × ((k : ℕ) → k < l.j → get_or l.terms k 0 ≡ get_or l.polynomial k 0)
