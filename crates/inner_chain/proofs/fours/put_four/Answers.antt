use Rattle.std.proofs.Common.{◌+◌, ◌≤◌, length, arith}
use Rattle.inner_chain.proofs.Quads.{four_put}
use Rattle.inner_chain.proofs.fours.put_four.Goals as goal

pub returns-clause-here : goal.returns-clause-here
returns-clause-here c = let room : c.args.at + 4 ≤ length c.args.to.now = omega (arith, c.requires.room) in four_put c.args.to.now c.args.at c.args.number room
