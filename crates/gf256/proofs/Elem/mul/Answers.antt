use Rattle.std.proofs.Common.{arith, ◌∙◌, ap₂, ◌+◌, get_or, ℕ}
use Rattle.gf256.proofs.TableRules.{product_is, logarithm_within}
use Rattle.gf256.specs.declared.tables.TheConstants.{POWERS}
use Rattle.gf256.proofs.Elem.mul.Goals as goal

pub overflow_add-sum : goal.overflow_add-sum
overflow_add-sum c =
    omega (arith, logarithm_within c.args.self.0 c.logarithm_at.ensures.byte, c.logarithm_at.ensures.entry, logarithm_within c.args.other.0 c.logarithm_at-2.ensures.byte, c.logarithm_at-2.ensures.entry)

pub power_at-requires : goal.power_at-requires
power_at-requires c =
    omega (arith, logarithm_within c.args.self.0 c.logarithm_at.ensures.byte, c.logarithm_at.ensures.entry, logarithm_within c.args.other.0 c.logarithm_at-2.ensures.byte, c.logarithm_at-2.ensures.entry)

pub returns : goal.returns
returns c =
    c.power_at.ensures ∙ ap₂ (λ (x y : ℕ). get_or POWERS (x + y) 0) c.logarithm_at.ensures.entry c.logarithm_at-2.ensures.entry
    ∙ product_is c.args.self.0 c.args.other.0 c.logarithm_at.ensures.byte c.logarithm_at-2.ensures.byte
