use Rattle.std.proofs.Common.{◌≡◌, ◌*◌, length, take}
use Rattle.law_link.specs.OldCells.{upgraded_cells}
use Rattle.cmd_convert.proofs.old_cells.upgrade_cells.Given as goal

-- the space begins with one new cell for each pass of the loop
abbrev pub invariant-loop-k : goal.invariant-loop-k
invariant-loop-k l = record { long : length l.room ≡ 5 * l.count; begins : take (5 * l.k) l.room ≡ upgraded_cells l.k l.old_cells }
