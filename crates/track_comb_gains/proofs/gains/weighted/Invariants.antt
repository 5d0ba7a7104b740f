-- The sum so far, and its size.
use Rattle.std.proofs.Common.{◌≡◌, ℕ, ◌*◌, ◌^◌, List, get_or}
use Rattle.spec_words.specs.Words.{numbers}
use Rattle.tracking.specs.Comb.{comb_of}
use Rattle.track_pilots.specs.Window.{StandsFor}
use Rattle.qam_map.specs.declared.cell.Cell.{Cell}
use Rattle.track_arithmetic.specs.Laws.{IsWithin}
use Rattle.track_arithmetic.specs.Numbers.{sum_of, times}
use Rattle.track_cells.specs.Gains.{gain_of}
use Rattle.track_cells.specs.Sizes.{size_to}
use Rattle.track_comb_gains.proofs.gains.weighted.Given as goal

abbrev pub invariant-loop-i : goal.invariant-loop-i
invariant-loop-i g l = record {
  is : (all : List (List Cell)) → StandsFor g.M.Carriers.MODE l.window all
      → l.sum ≡ sum_of (λ (i : ℕ). times (gain_of l.factors i) ((comb_of g.M.Carriers.MODE all).value (get_or l.symbols i 0) l.j)) (numbers l.i);
  within : IsWithin (size_to l.i l.taps * 2 ^ 30) l.sum;
}
