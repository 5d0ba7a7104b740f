use Rattle.std.proofs.Common.{◌≡◌, ◌<◌, ◌≤◌, ◌+◌, ℕ, get_or}
use Rattle.std.specs.Prelude.{bit_xor}
use Rattle.gf256.specs.Field as field
use Rattle.rs204.proofs.steps.take_out.Given as goal

abbrev pub invariant-loop-i : goal.invariant-loop-i
invariant-loop-i l = ((j : ℕ) → j < l.i → get_or l.moments j 0 ≡ bit_xor (get_or l.fn.moments (j + 1) 0) (field.mul l.place (get_or l.fn.moments j 0))) × ((j : ℕ) → l.i ≤ j → get_or l.moments j 0 ≡ get_or l.fn.moments j 0)
