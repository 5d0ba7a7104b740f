use Rattle.std.proofs.Common.{◌∙◌, ap, sym, arith}
use Rattle.gf256.specs.Field as field
use Rattle.rs204.proofs.Kernels.{reduced_drop, reduced_clear}
use Rattle.rs204.proofs.steps.reduce.Goals as goal

pub returns-after-loop-k : goal.returns-after-loop-k
returns-after-loop-k c = λ wide h.
    reduced_clear wide c.args.last c.args.from c.pivot-at.result c.inv-inverse.result c.loop-k.k c.args.values.now c.args.vectors.now c.swap.new.self c.loop-k.vectors c.swap.ensures.by_index c.pivot-at.ensures.within (omega arith)
    c.fits-values c.inv-inverse.type_inv (ap (λ z. field.mul z c.inv-inverse.result) (sym c.product-rest.ensures) ∙ c.inv-inverse.ensures) c.loop-k.invariant.1 h

pub returns-else-rest-ne0 : goal.returns-else-rest-ne0
returns-else-rest-ne0 c = λ wide h.
    reduced_drop wide c.args.last c.args.from c.pivot-at.result c.args.values.now c.args.vectors.now c.swap.new.self c.swap.ensures.by_index c.pivot-at.ensures.within (sym c.product-rest.ensures ∙ c.if-rest-ne0.false) c.pivot-at.ensures.cleared h
