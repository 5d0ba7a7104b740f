-- The digits are those of the quotient.
use Rattle.std.proofs.Common.{arith}
use Rattle.cell_equal.proofs.Quotients.{digits, full}
use Rattle.cell_equal.proofs.divide.fifteen_at_most.Goals as goal

pub returns-then-power-unit : goal.returns-then-power-unit
returns-then-power-unit c = full c.args.unit c.args.power c.requires.unit (omega (arith, c.if-power-unit.true))

pub returns : goal.returns
returns c =
    let u = c.args.unit in
    digits u c.args.power _ _ _ _ _ _ _ _ c.requires.unit
    (c.take-eights.ensures.sum u (omega arith)) (c.take-fours.ensures.sum u (omega arith)) (c.take-twos.ensures.sum u (omega arith)) (c.take-ones.ensures.sum u (omega arith))
    c.take-ones.ensures.rest (omega (arith, c.if-power-unit.false))
