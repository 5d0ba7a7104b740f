-- Two squares.
use Rattle.std.proofs.Common.{◌≤◌, arith}
use Rattle.std.proofs.lemmas.Int.{ints}
use Rattle.track_arithmetic.proofs.Products.{square_below}
use Rattle.track_arithmetic.proofs.complex.Complex.power.Goals as goal

pub returns-clause-within : goal.returns-clause-within
returns-clause-within c = λ a h.
    let re : c.unsigned_abs-re.result ≤ a = omega (arith, ints, c.unsigned_abs-re.ensures.value, h.re, c.requires.re) in
    let im : c.unsigned_abs-im.result ≤ a = omega (arith, ints, c.unsigned_abs-im.ensures.value, h.im, c.requires.im) in
    omega (arith, square_below c.unsigned_abs-re.result a re, square_below c.unsigned_abs-im.result a im)
