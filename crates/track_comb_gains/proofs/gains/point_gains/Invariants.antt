-- The points at lesser distances have their gains.
use Rattle.std.proofs.Common.{◌≡◌, ℕ, ◌<◌, ◌^◌, List, length}
use Rattle.mode_set.specs.declared.modes.Guard.{Guard}
use Rattle.tracking.specs.Comb.{comb_of, points}
use Rattle.tracking.specs.InTime.{distance, point_gain}
use Rattle.tracking.specs.Moving.{motion}
use Rattle.track_pilots.specs.Window.{StandsFor}
use Rattle.track_motion.specs.Around.{IsAround}
use Rattle.qam_map.specs.declared.cell.Cell.{Cell}
use Rattle.track_arithmetic.specs.Laws.{IsWithin}
use Rattle.track_cells.specs.Gains.{gain_of}
use Rattle.track_comb_gains.proofs.gains.point_gains.Given as goal

abbrev pub invariant-loop-d : goal.invariant-loop-d
invariant-loop-d g l = record {
  long : length l.gains ≡ length l.initial.gains;
  is : (symbols : List (List Cell)) (guard : Guard) (j : ℕ) → StandsFor g.M.Carriers.MODE l.window symbols → IsAround (comb_of g.M.Carriers.MODE symbols) l.m l.around → l.motion ≡ motion guard (comb_of g.M.Carriers.MODE symbols) l.m
      → j < points g.M.Carriers.MODE → distance l.m j < l.d → gain_of l.gains j ≡ point_gain guard (comb_of g.M.Carriers.MODE symbols) l.m j;
  within : (j : ℕ) → j < points g.M.Carriers.MODE → distance l.m j < l.d → IsWithin (2 ^ 21) (gain_of l.gains j);
}
