use Rattle.std.specs.Prelude.{slice_index}
use Rattle.bit_margin.specs.Sums.{IsLeastOf}
use Rattle.bit_margin.proofs.lowered.least_lane.Given as goal

abbrev pub invariant-loop-k : goal.invariant-loop-k
invariant-loop-k l = IsLeastOf (slice_index l.lanes) l.k l.least
