-- The sum so far, and its size.
use Rattle.std.proofs.Common.{◌≡◌, ◌*◌, ◌^◌, take}
use Rattle.track_arithmetic.specs.Laws.{IsWithin}
use Rattle.track_arithmetic.specs.Numbers.{sum_of}
use Rattle.track_turns.specs.Rows.{product}
use Rattle.track_turns.proofs.sums.products.Given as goal

abbrev pub invariant-loop-i : goal.invariant-loop-i
invariant-loop-i l = record {
  is : l.sum ≡ sum_of (product l.row l.other) (take l.i l.points);
  within : IsWithin (l.i * 2 ^ 31) l.sum;
}
