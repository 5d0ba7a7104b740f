use Rattle.measure_comparison.proofs.Comparing.{both_long, both_passed}
use Rattle.measure_comparison.proofs.streams.pass_both.Goals as goal

pub returns-clause-registers : goal.returns-clause-registers
returns-clause-registers g c =
    both_long c.args.coder.now c.pass_by.new.coder c.pass_by-2.new.coder c.pass_by.ensures.long c.pass_by.ensures.other c.pass_by-2.ensures.long c.pass_by-2.ensures.other

pub returns-clause-passed : goal.returns-clause-passed
returns-clause-passed g c = λ s m known h.
    both_passed s m c.args.hp.now c.args.lp.now c.pass_by.new.self c.pass_by-2.new.self c.args.coder.now c.pass_by.new.coder c.pass_by-2.new.coder known h
    c.pass_by.ensures.passed c.pass_by.ensures.other c.pass_by-2.ensures.passed c.pass_by-2.ensures.other
