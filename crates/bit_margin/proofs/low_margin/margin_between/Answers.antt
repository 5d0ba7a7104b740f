use Rattle.std.proofs.Common.{arith, ◌+◌, slice_index}
use Rattle.bit_margin.proofs.Capped.{whole_least}
use Rattle.bit_margin.proofs.low_margin.margin_between.Goals as goal
