-- The parts so far.
use Rattle.std.proofs.Common.{◌≡◌, ℕ, ◌^◌, ◌<◌, ◌≤◌, length}
use Rattle.std.specs.Prelude.{nat_abs}
use Rattle.track_cells.specs.Gains.{gain_of}
use Rattle.track_cells.specs.Weighed.{part_at}
use Rattle.track_cells.proofs.blocks.imaginary_parts.Given as goal

abbrev pub invariant-loop-n : goal.invariant-loop-n
invariant-loop-n l = record {
  long : length l.parts ≡ 75;
  is : (k : ℕ) → k < l.n → part_at l.parts k ≡ (gain_of l.points k).im;
  within : (k : ℕ) → k < l.n → nat_abs (part_at l.parts k) ≤ 2 ^ 22;
}
