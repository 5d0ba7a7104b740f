use Rattle.std.proofs.Common.{◌≡◌, length, arith}
use Rattle.inner_chain.proofs.Quads.{gathered_bits}
use Rattle.inner_chain.proofs.fours.gathered.Goals as goal

pub returns : goal.returns
returns c = let long : length c.args.ones ≡ 32 = omega arith in gathered_bits c.args.ones long
