-- The sum so far, and its size.
use Rattle.std.proofs.Common.{◌≡◌, ℕ, ◌+◌, ◌-◌, ◌*◌, ◌^◌, List}
use Rattle.spec_words.specs.Words.{numbers}
use Rattle.tracking.specs.Comb.{comb_of, turned_value}
use Rattle.tracking.specs.Moving.{tap}
use Rattle.track_pilots.specs.Window.{StandsFor}
use Rattle.qam_map.specs.declared.cell.Cell.{Cell}
use Rattle.track_arithmetic.specs.Laws.{IsWithin}
use Rattle.track_arithmetic.specs.Numbers.{scaled, sum_of}
use Rattle.track_motion.specs.Around.{IsAround}
use Rattle.track_motion.proofs.residues.predicted.Given as goal

abbrev pub invariant-loop-i : goal.invariant-loop-i
invariant-loop-i g l = record {
  is : (symbols : List (List Cell)) → StandsFor g.M.Carriers.MODE l.window symbols → IsAround (comb_of g.M.Carriers.MODE symbols) l.m l.around
      → l.sum ≡ sum_of (λ (i : ℕ). scaled (tap l.motion 2 i) (turned_value (comb_of g.M.Carriers.MODE symbols) l.m (l.m + 4 * i - 6) l.j)) (numbers l.i);
  within : IsWithin (l.i * (2429 * 2 ^ 30)) l.sum;
}
