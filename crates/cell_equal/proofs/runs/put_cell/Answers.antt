-- The bytes before the cell stay, and its own follow.
use Rattle.std.proofs.Common.{◌+◌, ◌-◌, ◌*◌, length, ◌∙◌, arith}
use Rattle.cell_equal.proofs.Bytes.{five_long, five_put}
use Rattle.cell_equal.proofs.runs.put_cell.Goals as goal

pub returns-clause-bytes : goal.returns-clause-bytes
returns-clause-bytes c = (five_put c.args.to.now c.copy_from_slice.new.self _ c.args.k (5 * c.args.k + 5 - 5 * c.args.k) (five_long c.args.restored) (omega arith) (omega (arith, c.requires)) (c.copy_from_slice.ensures.after ∙ c.cell_bytes-bytes.ensures)).1

pub returns-clause-long : goal.returns-clause-long
returns-clause-long c = (five_put c.args.to.now c.copy_from_slice.new.self _ c.args.k (5 * c.args.k + 5 - 5 * c.args.k) (five_long c.args.restored) (omega arith) (omega (arith, c.requires)) (c.copy_from_slice.ensures.after ∙ c.cell_bytes-bytes.ensures)).0
