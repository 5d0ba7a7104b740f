-- The parts of the product, and their size.
use Rattle.std.proofs.Common.{◌≡◌, ◌*◌, ◌^◌, ◌≤◌, sym, subst, arith, to_z, of_z}
use Rattle.track_arithmetic.specs.Laws.{IsWithin}
use Rattle.track_arithmetic.specs.Numbers.{times}
use Rattle.track_arithmetic.specs.declared.complex.Complex.{Complex}
use Rattle.track_arithmetic.proofs.Products.{given_product, is_product, times_within}
use Rattle.track_arithmetic.proofs.complex.Complex.times.Goals as goal

pub returns-clause-is : goal.returns-clause-is
returns-clause-is c =
    let x = c.args.self in
    let y = c.args.factor in
    is_product x y _ _ _ _
    (given_product _ x.re y.re (omega (arith, c.requires.self_within.re)) (omega (arith, c.requires.factor_within.re)) c.product.ensures.is)
    (given_product _ x.im y.im (omega (arith, c.requires.self_within.im)) (omega (arith, c.requires.factor_within.im)) c.product-2.ensures.is)
    (given_product _ x.re y.im (omega (arith, c.requires.self_within.re)) (omega (arith, c.requires.factor_within.im)) c.product-3.ensures.is)
    (given_product _ x.im y.re (omega (arith, c.requires.self_within.im)) (omega (arith, c.requires.factor_within.re)) c.product-4.ensures.is)
    c.product.ensures.small c.product-2.ensures.small c.product-3.ensures.small c.product-4.ensures.small

pub returns-clause-within : goal.returns-clause-within
returns-clause-within c = λ a b h k. subst (λ (z : Complex). IsWithin (2 * (a * b)) z) (sym (returns-clause-is c)) (times_within c.args.self c.args.factor a b h k)
