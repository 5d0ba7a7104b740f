-- The cosines so far.
use Rattle.std.proofs.Common.{◌≡◌, ℕ, ◌+◌, ◌*◌, ◌%◌, ◌^◌, ◌<◌, ◌≤◌, length}
use Rattle.std.specs.Prelude.{nat_abs}
use Rattle.track_arithmetic.specs.Numbers.{cosine}
use Rattle.track_cells.specs.Weighed.{part_at}
use Rattle.track_cells.proofs.turns.cosines_back.Given as goal

abbrev pub invariant-loop-j : goal.invariant-loop-j
invariant-loop-j l = record {
  long : length l.back ≡ 192;
  is : (k : ℕ) → k < l.j → part_at l.back k ≡ cosine ((63 * ((15 + k) * l.slope) + l.ahead) % 64);
  within : (k : ℕ) → k < l.j → nat_abs (part_at l.back k) ≤ 2 ^ 14;
}
