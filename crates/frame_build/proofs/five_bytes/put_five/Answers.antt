-- The bytes before the cell stay, and its own follow.
use Rattle.std.proofs.Common.{◌+◌, ◌-◌, ◌*◌, arith}
use Rattle.frame_build.proofs.Cells.{five_put}
use Rattle.frame_build.proofs.five_bytes.put_five.Goals as goal

pub returns-clause-bytes : goal.returns-clause-bytes
returns-clause-bytes c = (five_put c.args.to.now c.copy_from_slice.new.self c.args.bytes c.args.k (5 * c.args.k + 5 - 5 * c.args.k) (omega arith) (omega arith) (omega (arith, c.requires)) c.copy_from_slice.ensures.after).1

pub returns-clause-long : goal.returns-clause-long
returns-clause-long c = (five_put c.args.to.now c.copy_from_slice.new.self c.args.bytes c.args.k (5 * c.args.k + 5 - 5 * c.args.k) (omega arith) (omega arith) (omega (arith, c.requires)) c.copy_from_slice.ensures.after).0
