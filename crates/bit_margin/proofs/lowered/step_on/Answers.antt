use Rattle.std.proofs.Common.{arith}
use Rattle.bit_margin.proofs.Ahead.{ahead_close, ahead_step}
use Rattle.bit_margin.proofs.lowered.step_on.Goals as goal

pub settle-requires-clause-close : goal.settle-requires-clause-close
settle-requires-clause-close c = ahead_close c.requires.low.0 c.args.sums.now c.requires.low.1

pub settle-requires-clause-fits : goal.settle-requires-clause-fits
settle-requires-clause-fits c = c.requires.low.1.small

pub forward-requires : goal.forward-requires
forward-requires c = record { fit = λ n l. omega (arith, c.settle.ensures.few n l) }

pub returns : goal.returns
returns c = record { step = λ d h. ahead_step c.args.pair c.args.sums.now c.settle.new.sums c.forward.new.sums d c.settle.ensures c.forward.ensures.step h }
