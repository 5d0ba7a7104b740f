use Rattle.std.proofs.Common.{arith, ◌∙◌, ap, ◌+◌, get_or, ℕ}
use Rattle.gf256.proofs.TableRules.{product_power, logarithm_within}
use Rattle.gf256.specs.declared.tables.TheConstants.{POWERS}
use Rattle.gf256.proofs.Elem.times_power.Goals as goal

pub overflow_add-sum : goal.overflow_add-sum
overflow_add-sum c = omega (arith, logarithm_within c.args.self.0 c.logarithm_at.ensures.byte, c.logarithm_at.ensures.entry)

pub power_at-requires : goal.power_at-requires
power_at-requires c = omega (arith, logarithm_within c.args.self.0 c.logarithm_at.ensures.byte, c.logarithm_at.ensures.entry)

pub returns : goal.returns
returns c =
    c.power_at.ensures ∙ ap (λ (x : ℕ). get_or POWERS (x + c.args.exponent) 0) c.logarithm_at.ensures.entry
    ∙ product_power c.args.self.0 c.args.exponent c.logarithm_at.ensures.byte (omega arith)
