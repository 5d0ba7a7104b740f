-- The rows so far have their sums.
use Rattle.std.proofs.Common.{◌≡◌, ℕ, ◌+◌, ◌^◌, ◌<◌, ◌≤◌, length, get_or, []}
use Rattle.std.specs.Prelude.{nat_abs}
use Rattle.tracking.specs.InFrequency.{frequency_row}
use Rattle.track_cells.specs.Weighed.{part_at, weighed}
use Rattle.track_cells.proofs.blocks.weighed_rows.Given as goal

abbrev pub invariant-loop-r : goal.invariant-loop-r
invariant-loop-r l = record {
  long : length l.sums ≡ 3;
  is : (r : ℕ) → r < l.r → (n : ℕ) → n < 64 → part_at (get_or l.sums r []) n ≡ weighed (frequency_row l.guard (15 + r)) l.parts n;
  within : (r : ℕ) → r < l.r → (n : ℕ) → n < 64 → nat_abs (part_at (get_or l.sums r []) n) ≤ 2 ^ 24;
}
