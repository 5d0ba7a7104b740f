use Rattle.std.proofs.Common.{◌∙◌, sym}
use Rattle.acs_plain.proofs.Loops.{with_bit_fits, with_bit_before, with_bit_here, unset_above}
use Rattle.acs_plain.proofs.sums.with_bit.Goals as goal

pub returns-then-on-clause-fits : goal.returns-then-on-clause-fits
returns-then-on-clause-fits c = with_bit_fits c.args.word c.args.place c.requires.low c.requires.place

pub returns-then-on-clause-before : goal.returns-then-on-clause-before
returns-then-on-clause-before c = with_bit_before c.args.word c.args.place c.requires.place

pub returns-then-on-clause-here : goal.returns-then-on-clause-here
returns-then-on-clause-here c = with_bit_here c.args.word c.args.place c.requires.place ∙ sym c.if-on.true

pub returns-else-on-clause-here : goal.returns-else-on-clause-here
returns-else-on-clause-here c = unset_above c.args.word c.args.place c.requires.low ∙ sym c.if-on.false
