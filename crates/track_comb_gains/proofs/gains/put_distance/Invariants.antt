-- The points so far have their gains.
use Rattle.std.proofs.Common.{◌≡◌, ℕ, ◌+◌, ◌*◌, ◌%◌, ◌<◌, ◌^◌, List, length, get_or}
use Rattle.spec_words.specs.Words.{numbers}
use Rattle.tracking.specs.Comb.{comb_of}
use Rattle.track_pilots.specs.Window.{StandsFor}
use Rattle.qam_map.specs.declared.cell.Cell.{Cell}
use Rattle.track_arithmetic.specs.Laws.{IsWithin}
use Rattle.track_arithmetic.specs.Numbers.{near, sum_of, times}
use Rattle.track_cells.specs.Gains.{gain_of}
use Rattle.track_comb_gains.proofs.gains.put_distance.Given as goal

abbrev pub invariant-loop-q : goal.invariant-loop-q
invariant-loop-q g l = record {
  long : length l.gains ≡ length l.initial.gains;
  is : (all : List (List Cell)) (j : ℕ) → StandsFor g.M.Carriers.MODE l.window all → j < l.first + 4 * l.q → j % 4 ≡ l.first
      → gain_of l.gains j ≡ near 22 (sum_of (λ (i : ℕ). times (gain_of l.factors i) ((comb_of g.M.Carriers.MODE all).value (get_or l.symbols i 0) j)) (numbers 4));
  within : (j : ℕ) → j < l.first + 4 * l.q → j % 4 ≡ l.first → IsWithin (2 ^ 21) (gain_of l.gains j);
  others : (j : ℕ) → (j % 4 ≡ l.first → ⊥) → gain_of l.gains j ≡ gain_of l.initial.gains j;
}
