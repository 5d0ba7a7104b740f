-- The product fits.
use Rattle.std.proofs.Common.{arith, FitsSigned}
use Rattle.std.specs.Int.{w16, w64}
use Rattle.std.proofs.lemmas.Int.{ints, to_z-of_z}
use Rattle.track_arithmetic.proofs.rounding.rest_after.Goals as goal

pub returns : goal.returns
returns c =
    let guess : FitsSigned w16 c.args.guess = c.ranges.guess in
    let divisor : FitsSigned w64 c.args.divisor = c.ranges.divisor in
    let p = simp to_z-of_z at c.multiple.ensures.is in
    omega (arith, ints, p, c.multiple.ensures.small, c.requires.dividend)
