-- The sum so far, and its size.
use Rattle.std.proofs.Common.{◌≡◌, ◌*◌, ◌^◌, ◌≤◌}
use Rattle.std.specs.Prelude.{nat_abs}
use Rattle.track_cells.specs.Sizes.{size_to}
use Rattle.track_cells.specs.Weighed.{weighed_to}
use Rattle.track_cells.proofs.blocks.weighed_sum.Given as goal

abbrev pub invariant-loop-i : goal.invariant-loop-i
invariant-loop-i l = record {
  is : l.sum ≡ weighed_to l.i l.row l.parts l.n;
  within : nat_abs l.sum ≤ size_to l.i l.row * 2 ^ 22;
}
