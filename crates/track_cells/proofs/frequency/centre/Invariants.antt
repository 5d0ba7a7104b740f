-- The points so far are turned.
use Rattle.std.proofs.Common.{◌≡◌, ℕ, ◌*◌, ◌<◌, ◌^◌, length}
use Rattle.tracking.specs.InFrequency.{slope}
use Rattle.track_arithmetic.specs.Laws.{IsWithin}
use Rattle.track_arithmetic.specs.Numbers.{near, times, turned_by}
use Rattle.track_cells.specs.Gains.{gain_of}
use Rattle.track_cells.proofs.frequency.centre.Given as goal

abbrev pub invariant-loop-j : goal.invariant-loop-j
invariant-loop-j l = record {
  long : length l.centred ≡ length l.initial.centred;
  is : (k : ℕ) → k < l.j → gain_of l.centred k ≡ near 14 (times (gain_of l.gains k) (turned_by (3 * k * slope l.fn.guard)));
  within : (k : ℕ) → k < l.j → IsWithin (2 ^ 22) (gain_of l.centred k);
}
