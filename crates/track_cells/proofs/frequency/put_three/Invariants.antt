-- The carriers so far have their gains.
use Rattle.std.proofs.Common.{◌≡◌, ℕ, ◌+◌, ◌*◌, ◌^◌, ◌<◌, length, get_or, []}
use Rattle.track_arithmetic.specs.Laws.{IsWithin}
use Rattle.track_arithmetic.specs.Numbers.{near, times}
use Rattle.track_cells.specs.Gains.{gain_of}
use Rattle.track_cells.specs.Weighed.{pair_at}
use Rattle.track_cells.proofs.frequency.put_three.Given as goal

abbrev pub invariant-loop-r : goal.invariant-loop-r
invariant-loop-r l = record {
  long : length l.to ≡ length l.initial.to;
  before : (j : ℕ) → j < l.k → gain_of l.to j ≡ gain_of l.initial.to j;
  is : (s : ℕ) → s < l.r → gain_of l.to (l.k + s) ≡ near 14 (times (pair_at (get_or l.re s []) (get_or l.im s []) l.n) (pair_at l.cosines l.sines (3 * l.n + s)));
  within : (s : ℕ) → s < l.r → IsWithin (2 ^ 25) (gain_of l.to (l.k + s));
}
