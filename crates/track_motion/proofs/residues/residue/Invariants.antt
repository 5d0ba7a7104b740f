-- The sum so far, and its size.
use Rattle.std.proofs.Common.{◌≡◌, ℕ, ◌*◌, ◌≤◌, List, take}
use Rattle.std.specs.Prelude.{sum_by}
use Rattle.tracking.specs.Comb.{comb_of}
use Rattle.track_pilots.specs.Window.{StandsFor}
use Rattle.qam_map.specs.declared.cell.Cell.{Cell}
use Rattle.track_motion.specs.Around.{IsAround}
use Rattle.track_motion.specs.Means.{left, most_left}
use Rattle.track_motion.proofs.residues.residue.Given as goal

abbrev pub invariant-loop-i : goal.invariant-loop-i
invariant-loop-i g l = record {
  is : (symbols : List (List Cell)) → StandsFor g.M.Carriers.MODE l.window symbols → IsAround (comb_of g.M.Carriers.MODE symbols) l.m l.around → l.sum ≡ sum_by (left (comb_of g.M.Carriers.MODE symbols) l.motion l.m) (take l.i l.points);
  most : l.sum ≤ l.i * most_left;
}
