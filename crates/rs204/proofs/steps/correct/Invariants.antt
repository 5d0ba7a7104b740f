use Rattle.std.proofs.Common.{◌≡◌, ◌<◌, ℕ, get_or, drop, length}
use Rattle.rs204.specs.Decoding.{corrected}
use Rattle.rs204.proofs.steps.correct.Given as goal

abbrev pub invariant-loop-j : goal.invariant-loop-j
invariant-loop-j l = (length l.word ≡ 204) × ((i : ℕ) → get_or l.word i 0 < 256) × (corrected l.word (drop l.j l.places) (drop l.j l.values) ≡ corrected l.fn.word l.places l.values)
