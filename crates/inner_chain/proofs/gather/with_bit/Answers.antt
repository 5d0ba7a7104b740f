use Rattle.std.proofs.Common.{◌∙◌, arith}
use mir.Val.{bool_byte}
use Rattle.inner_chain.proofs.Gathering.{up_small, up_above, up_here, bool_small, bool_bit}
use Rattle.inner_chain.proofs.gather.with_bit.Goals as goal

pub overflow_add-result : goal.overflow_add-result
overflow_add-result c = omega (arith, c.requires, bool_small c.args.bit)

pub returns-clause-small : goal.returns-clause-small
returns-clause-small c = λ n l. up_small c.args.label (bool_byte c.args.bit) n (bool_small c.args.bit) l

pub returns-clause-above : goal.returns-clause-above
returns-clause-above c = λ e. up_above c.args.label (bool_byte c.args.bit) e (bool_small c.args.bit)

pub returns-clause-here : goal.returns-clause-here
returns-clause-here c = up_here c.args.label (bool_byte c.args.bit) ∙ bool_bit c.args.bit
