use Rattle.std.proofs.Common.{◌≡◌, ◌*◌, ◌<◌, ◌≤◌, ℕ, get_or, length}
use Rattle.gf256.specs.Field as field
use Rattle.rs204.proofs.values.advance.Given as goal

abbrev pub invariant-loop-j : goal.invariant-loop-j
invariant-loop-j l = record {
  long : length l.terms ≡ 17;
  done : (k : ℕ) → k < l.j → get_or l.terms k 0 ≡ field.mul (get_or l.fn.terms k 0) (field.power (12 * k));
  left : (k : ℕ) → l.j ≤ k → get_or l.terms k 0 ≡ get_or l.fn.terms k 0;
}
