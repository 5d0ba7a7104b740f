use Rattle.std.proofs.Common.{arith}
use Rattle.bit_margin.proofs.LowSums.{low_close, low_step}
use Rattle.bit_margin.proofs.lowered.step_back.Goals as goal

pub settle-requires-clause-close : goal.settle-requires-clause-close
settle-requires-clause-close c = low_close c.requires.low.0 c.args.sums.now c.requires.low.1

pub settle-requires-clause-fits : goal.settle-requires-clause-fits
settle-requires-clause-fits c = c.requires.low.1.small

pub backward-requires : goal.backward-requires
backward-requires c = record { fit = λ n l. omega (arith, c.settle.ensures.few n l) }

pub returns : goal.returns
returns c = record { step = λ d h. low_step c.args.pair c.args.sums.now c.settle.new.sums c.backward.new.sums d c.settle.ensures c.backward.ensures.step h }
