use Rattle.std.proofs.Common.{◌≤◌, ◌-◌, length}
use Rattle.station_files.proofs.patience.write_whole.Given as goal

abbrev pub invariant-loop-written : goal.invariant-loop-written
invariant-loop-written g l = l.written ≤ length l.bytes

-- the bytes still to be written
abbrev pub decreases-loop-written : goal.decreases-loop-written
decreases-loop-written g l = length l.bytes - l.written
