-- The factors so far.
use Rattle.std.proofs.Common.{◌≡◌, ℕ, ◌*◌, ◌^◌, ◌<◌, length, get_or}
use Rattle.std.specs.Prelude.{pos, nat_abs}
use Rattle.tracking.specs.InTime.{place}
use Rattle.track_arithmetic.specs.Laws.{IsWithin}
use Rattle.track_arithmetic.specs.Numbers.{nothing, scaled}
use Rattle.track_cells.specs.Gains.{gain_of}
use Rattle.track_comb_gains.proofs.gains.factors_at.Given as goal

abbrev pub invariant-loop-i : goal.invariant-loop-i
invariant-loop-i l = record {
  long : length l.factors ≡ 4;
  are : (k : ℕ) → k < l.i → gain_of l.factors k ≡ scaled (get_or l.taps k (pos 0)) (get_or l.around.turns (place l.d k) nothing);
  within : (k : ℕ) → k < l.i → IsWithin (nat_abs (get_or l.taps k (pos 0)) * 2 ^ 14) (gain_of l.factors k);
}
