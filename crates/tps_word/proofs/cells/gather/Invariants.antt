use Rattle.std.proofs.Common.{◌≡◌, take, map}
use Rattle.qam_map.specs.Cells.{cell_of}
use Rattle.tps_word.proofs.cells.gather.Given as goal

abbrev pub invariant-loop-i : goal.invariant-loop-i
invariant-loop-i l = take l.i l.to ≡ map (cell_of l.symbol) (take l.i l.carriers)
