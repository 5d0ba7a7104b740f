-- The bytes before the cell stay, and its own follow.
use Rattle.std.proofs.Common.{◌+◌, ◌-◌, ◌*◌, arith}
use Rattle.frame_build.proofs.Cells.{eight_put}
use Rattle.frame_build.proofs.five_bytes.put_eight.Goals as goal

pub returns-clause-bytes : goal.returns-clause-bytes
returns-clause-bytes c = (eight_put c.args.to.now c.copy_from_slice.new.self c.args.bytes c.args.k (5 * c.args.k + 8 - 5 * c.args.k) (omega arith) (omega arith) (omega (arith, c.requires)) c.copy_from_slice.ensures.after).1

pub returns-clause-long : goal.returns-clause-long
returns-clause-long c = (eight_put c.args.to.now c.copy_from_slice.new.self c.args.bytes c.args.k (5 * c.args.k + 8 - 5 * c.args.k) (omega arith) (omega arith) (omega (arith, c.requires)) c.copy_from_slice.ensures.after).0
