use Rattle.std.proofs.Common.{refl, slice_index}
use Rattle.bit_margin.proofs.Loops.{least_more}
use Rattle.bit_margin.proofs.lowered.least_lane.Goals as goal

pub loop-k-preserved : goal.loop-k-preserved
loop-k-preserved c = least_more (slice_index c.args.lanes) c.loop-k.k c.loop-k.least _ _ c.loop-k.invariant c.min-least.ensures refl
