-- The sums so far.
use Rattle.std.proofs.Common.{◌≡◌, ℕ, ◌^◌, ◌<◌, ◌≤◌, length}
use Rattle.std.specs.Prelude.{nat_abs}
use Rattle.track_cells.specs.Weighed.{part_at, weighed}
use Rattle.track_cells.proofs.blocks.weighed_row.Given as goal

abbrev pub invariant-loop-n : goal.invariant-loop-n
invariant-loop-n l = record {
  long : length l.sums ≡ 64;
  is : (k : ℕ) → k < l.n → part_at l.sums k ≡ weighed l.row l.parts k;
  within : (k : ℕ) → k < l.n → nat_abs (part_at l.sums k) ≤ 2 ^ 24;
}
