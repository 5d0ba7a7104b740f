-- The size of both products.
use Rattle.std.proofs.Common.{◌≤◌, ◌^◌, arith}
use Rattle.track_arithmetic.proofs.Products.{given_product, given_below}
use Rattle.track_arithmetic.proofs.complex.Complex.scaled.Goals as goal

pub returns-clause-within : goal.returns-clause-within
returns-clause-within c = λ a b h k.
    let x = c.args.self in
    let n = c.args.coefficient in
    let re = given_product c.product.result x.re n (omega (arith, c.requires.self_within.re)) (omega (arith, c.requires.coefficient)) c.product.ensures.is in
    let im = given_product c.product-2.result x.im n (omega (arith, c.requires.self_within.im)) (omega (arith, c.requires.coefficient)) c.product-2.ensures.is in
    record {
      re = given_below c.product.result x.re n a b c.product.ensures.small re h.re k;
      im = given_below c.product-2.result x.im n a b c.product-2.ensures.small im h.im k;
    }
