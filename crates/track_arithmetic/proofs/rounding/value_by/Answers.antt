-- A guess that passes the test is the value.
use Rattle.std.proofs.Common.{◌≡◌, ◌∙◌, arith, to_z, of_z}
use Rattle.std.specs.Prelude.{pos, ◌+ℤ◌, ◌-ℤ◌, ◌*ℤ◌, ◌*◌}
use Rattle.std.specs.Int.{w16, w64}
use Rattle.std.proofs.lemmas.Int.{ints}
use Rattle.track_arithmetic.proofs.Guesses.{same_rest, guessed}
use Rattle.track_arithmetic.proofs.rounding.value_by.Goals as goal

pub returns-then-rest-divisor : goal.returns-then-rest-divisor
returns-then-rest-divisor c =
    let x = c.args.x in
    let guess = c.args.guess in
    let n = c.args.n in
    let few = c.if-n.true in
    let back : to_z w16 (of_z w16 guess) ≡ guess = omega (arith, ints) in
    let rest : c.rest_after-rest.result ≡ (pos 2 *ℤ x +ℤ pos n) -ℤ guess *ℤ pos (2 * n) =
    same_rest {d = to_z w64 (of_z w64 c.dividend.result)} {e = pos 2 *ℤ x +ℤ pos n} {g = to_z w16 (of_z w16 guess)} {h = guess} {t = to_z w64 (of_z w64 (pos 2 *ℤ to_z w64 n))} {u = pos (2 * n)} c.rest_after-rest.ensures (omega (arith, ints, c.dividend.ensures.is, c.dividend.ensures.small, few)) (omega (arith, ints)) (omega (arith, ints, few)) in
    back ∙ guessed x c.rest_after-rest.result guess n c.ranges.guess c.requires.some rest (omega (arith, ints, c.if-rest-ge0.true)) (omega (arith, ints, c.if-rest-divisor.true, few))
