-- The sum so far, and its size.
use Rattle.std.proofs.Common.{◌≡◌, ℕ, ◌*◌, ◌^◌, List, get_or}
use Rattle.std.specs.Prelude.{pos}
use Rattle.spec_words.specs.Words.{numbers}
use Rattle.tracking.specs.Comb.{comb_of, turned_value}
use Rattle.tracking.specs.InTime.{place, symbol_at}
use Rattle.track_pilots.specs.Window.{StandsFor}
use Rattle.track_motion.specs.Around.{IsAround}
use Rattle.qam_map.specs.declared.cell.Cell.{Cell}
use Rattle.track_arithmetic.specs.Laws.{IsWithin}
use Rattle.track_arithmetic.specs.Numbers.{scaled, sum_of}
use Rattle.track_cells.specs.Sizes.{size_to}
use Rattle.track_comb_gains.proofs.plain.weighted.Given as goal

abbrev pub invariant-loop-i : goal.invariant-loop-i
invariant-loop-i g l = record {
  is : (symbols : List (List Cell)) → StandsFor g.M.Carriers.MODE l.window symbols → IsAround (comb_of g.M.Carriers.MODE symbols) l.m l.around
      → l.sum ≡ sum_of (λ (i : ℕ). scaled (get_or l.taps i (pos 0)) (turned_value (comb_of g.M.Carriers.MODE symbols) l.m (symbol_at l.m (place l.d i)) l.j)) (numbers l.i);
  within : IsWithin (size_to l.i l.taps * 2 ^ 30) l.sum;
}
