-- The points so far are within the bound.
use Rattle.std.proofs.Common.{◌≡◌, ℕ, ◌^◌, ◌<◌, length}
use Rattle.track_arithmetic.specs.Laws.{IsWithin}
use Rattle.track_cells.specs.Gains.{gain_of}
use Rattle.test_conversions.proofs.tests.both_bodies.fill.Given as goal

abbrev pub invariant-loop-j : goal.invariant-loop-j
invariant-loop-j l = record {
  long : length l.points ≡ length l.initial.points;
  within : (k : ℕ) → k < l.j → IsWithin (2 ^ 21) (gain_of l.points k);
}
