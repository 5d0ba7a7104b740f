-- After the sort the number stands in the middle.
use Rattle.std.proofs.Common.{refl}
use Rattle.track_arithmetic.proofs.Sorted as sorted
use Rattle.track_arithmetic.proofs.order.middle.Goals as goal

pub returns : goal.returns
returns c = sorted.middle _ c.sort_unstable.new.self _ c.sort_unstable.ensures.permutation c.sort_unstable.ensures.sorted c.requires c.sort_unstable.ensures.len refl
