-- The places so far have their turns.
use Rattle.std.proofs.Common.{◌≡◌, ℕ, ◌<◌, ◌^◌, List, true, length, get_or}
use Rattle.tracking.specs.Comb.{turn, comb_of}
use Rattle.tracking.specs.InTime.{symbol_at}
use Rattle.track_pilots.specs.Window.{StandsFor}
use Rattle.qam_map.specs.declared.cell.Cell.{Cell}
use Rattle.track_arithmetic.specs.Laws.{IsWithin}
use Rattle.track_arithmetic.specs.Numbers.{nothing}
use Rattle.track_motion.specs.Places.{in_file}
use Rattle.track_motion.proofs.surroundings.turns.Given as goal

abbrev pub invariant-loop-p : goal.invariant-loop-p
invariant-loop-p g l = record {
  long : length l.turns ≡ 16;
  is : (symbols : List (List Cell)) (p : ℕ) → StandsFor g.M.Carriers.MODE l.window symbols → p < l.p → in_file l.window.count l.m p ≡ true → get_or l.turns p nothing ≡ turn (comb_of g.M.Carriers.MODE symbols) l.m (symbol_at l.m p);
  within : (p : ℕ) → p < l.p → IsWithin (2 ^ 14) (get_or l.turns p nothing);
}
