use Rattle.std.proofs.Common.{◌≡◌, ◌<◌, ◌≤◌, ℕ, get_or, length}
use Rattle.std.specs.Prelude.{bit_xor}
use Rattle.gf256.specs.Field as field
use Rattle.rs204.proofs.steps.next_values.Given as goal

abbrev pub invariant-loop-i : goal.invariant-loop-i
invariant-loop-i l = record {
  long : length l.values ≡ 16;
  done : (k : ℕ) → k < l.i → get_or l.values k 0 ≡ bit_xor (field.mul (get_or l.fn.values k 0) (field.power k)) l.byte;
  left : (k : ℕ) → l.i ≤ k → get_or l.values k 0 ≡ get_or l.fn.values k 0;
}
