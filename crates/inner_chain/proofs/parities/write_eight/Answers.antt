use Rattle.std.proofs.Common.{◌∙◌, ◌+◌, ap, arith, Bool, List}
use Rattle.inner_chain.specs.Tables.{read_bit}
use Rattle.inner_chain.proofs.parities.write_eight.Goals as goal

pub returns-clause-first : goal.returns-clause-first
returns-clause-first c = λ i l.
    c.write_four-2.ensures.before (c.args.at + i) (omega (arith, l)) ∙ c.write_four.ensures.here i l
    ∙ ap (λ (z : List Bool). read_bit z i) (c.requires.rows.at _ _ (omega arith))

pub returns-clause-second : goal.returns-clause-second
returns-clause-second c = λ i l. c.write_four-2.ensures.here i l ∙ ap (λ (z : List Bool). read_bit z i) (c.requires.rows.at _ _ (omega arith))
