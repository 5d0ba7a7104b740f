-- The sum so far, and its size.
use Rattle.std.proofs.Common.{◌≡◌, ℕ, ◌*◌, ◌^◌, get_or}
use Rattle.std.specs.Prelude.{pos}
use Rattle.spec_words.specs.Words.{numbers}
use Rattle.track_arithmetic.specs.Laws.{IsWithin}
use Rattle.track_arithmetic.specs.Numbers.{scaled, sum_of}
use Rattle.track_cells.specs.Gains.{gain_of}
use Rattle.track_cells.specs.Sizes.{size_to}
use Rattle.track_cells.proofs.frequency.weighted.Given as goal

abbrev pub invariant-loop-i : goal.invariant-loop-i
invariant-loop-i l = record {
  is : l.sum ≡ sum_of (λ (i : ℕ). scaled (get_or l.row i (pos 0)) (gain_of l.points i)) (numbers l.i);
  within : IsWithin (size_to l.i l.row * 2 ^ 22) l.sum;
}
