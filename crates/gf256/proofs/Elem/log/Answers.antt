use Rattle.std.proofs.Common.{arith, ◌∙◌, ap}
use Rattle.gf256.specs.Field.{power}
use Rattle.gf256.proofs.TableRules.{logarithm_below, logarithm_is}
use Rattle.gf256.proofs.Elem.log.Goals as goal

pub overflow_cast-result : goal.overflow_cast-result
overflow_cast-result c = omega (arith, logarithm_below c.args.self.0 c.logarithm_at.ensures.byte c.requires, c.logarithm_at.ensures.entry)

pub returns-clause-below : goal.returns-clause-below
returns-clause-below c = omega (arith, logarithm_below c.args.self.0 c.logarithm_at.ensures.byte c.requires, c.logarithm_at.ensures.entry)

pub returns-clause-is : goal.returns-clause-is
returns-clause-is c = ap power c.logarithm_at.ensures.entry ∙ logarithm_is c.args.self.0 c.logarithm_at.ensures.byte c.requires
