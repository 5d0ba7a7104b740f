use Rattle.std.proofs.Common.{◌≤◌, ◌<◌, ◌*◌, ◌^◌, arith}
use Rattle.std.proofs.Math.Nat.{pow-le-pow_right, mul-le-mul}
use Rattle.symbol_interleave.proofs.addresses.bit_to.Goals as goal

pub returns-clause-small : goal.returns-clause-small
returns-clause-small c =
    let weight : 2 ^ c.args.to ≤ 2 ^ 11 = let less : c.args.to ≤ 11 = omega arith in let some : 0 < 2 = omega arith in pow-le-pow_right {n = 2} some {i = c.args.to} {j = 11} less in
    let bit : c.bit.result ≤ 1 = omega arith in
    let product : c.bit.result * 2 ^ c.args.to ≤ 1 * 2 ^ 11 = mul-le-mul bit weight in
    omega (arith, product)
