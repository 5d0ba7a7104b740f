-- The sum so far, and its size.
use Rattle.std.proofs.Common.{◌≡◌, ◌*◌, ◌^◌, ◌≤◌, take}
use Rattle.std.specs.Prelude.{sum_by}
use Rattle.track_turns.specs.Rows.{difference}
use Rattle.track_turns.proofs.sums.differences.Given as goal

abbrev pub invariant-loop-i : goal.invariant-loop-i
invariant-loop-i l = record {
  is : l.sum ≡ sum_by (difference l.row l.other l.turn) (take l.i l.points);
  most : l.sum ≤ l.i * 2 ^ 36;
}
