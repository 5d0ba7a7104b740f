-- The digits are those of the quotient.
use Rattle.std.proofs.Common.{arith}
use Rattle.track_cells.proofs.Digits.{digits, full}
use Rattle.track_cells.proofs.weights.fifteen_at_most.Goals as goal

pub returns-then-x-unit-clause-is : goal.returns-then-x-unit-clause-is
returns-then-x-unit-clause-is c = full c.args.unit c.args.x c.requires.unit (omega (arith, c.if-x-unit.true))

pub returns-clause-is : goal.returns-clause-is
returns-clause-is c =
    let u = c.args.unit in
    digits u c.args.x _ _ _ _ _ _ _ _ c.requires.unit
    (c.take-eights.ensures.sum u (omega arith)) (c.take-fours.ensures.sum u (omega arith)) (c.take-twos.ensures.sum u (omega arith)) (c.take-ones.ensures.sum u (omega arith))
    c.take-ones.ensures.rest (omega (arith, c.if-x-unit.false))
