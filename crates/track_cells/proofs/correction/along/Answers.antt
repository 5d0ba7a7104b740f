-- The sum of two products.
use Rattle.std.proofs.Common.{arith, FitsSigned}
use Rattle.std.specs.Int.{w16, w64}
use Rattle.std.proofs.lemmas.Int.{ints, to_z-of_z}
use Rattle.track_cells.proofs.correction.along.Goals as goal

pub returns-clause-is : goal.returns-clause-is
returns-clause-is c =
    let re : FitsSigned w16 c.args.re = c.ranges.re in
    let im : FitsSigned w16 c.args.im = c.ranges.im in
    let u : FitsSigned w64 c.args.u = c.ranges.u in
    let v : FitsSigned w64 c.args.v = c.ranges.v in
    let p = simp to_z-of_z at c.product.ensures.is in
    let q = simp to_z-of_z at c.product-2.ensures.is in
    omega (arith, ints, p, q, c.product.ensures.small, c.product-2.ensures.small)
