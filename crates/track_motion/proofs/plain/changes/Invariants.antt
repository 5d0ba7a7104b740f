-- The places so far have their changes.
use Rattle.std.proofs.Common.{◌≡◌, ℕ, ◌<◌, ◌≤◌, ◌^◌, List, length, get_or}
use Rattle.tracking.specs.Comb.{change, comb_of}
use Rattle.tracking.specs.InTime.{symbol_at}
use Rattle.track_pilots.specs.Window.{StandsFor}
use Rattle.qam_map.specs.declared.cell.Cell.{Cell}
use Rattle.track_motion.specs.Places.{end_place, first_place}
use Rattle.track_motion.proofs.plain.changes.Given as goal

abbrev pub invariant-loop-p : goal.invariant-loop-p
invariant-loop-p g l = record {
  long : length l.changes ≡ 16;
  is : (symbols : List (List Cell)) (p : ℕ) → StandsFor g.M.Carriers.MODE l.window symbols → first_place l.m < p → p < end_place l.window.count l.m → p < l.p → get_or l.changes p 0 ≡ change (comb_of g.M.Carriers.MODE symbols) (symbol_at l.m p);
  most : (p : ℕ) → p < l.p → get_or l.changes p 0 ≤ 2 ^ 44;
}
