-- Byte after byte is appended.
use Rattle.std.proofs.Common.{arith}
use Rattle.frame_build.proofs.Cells.{five_pushed}
use Rattle.frame_build.proofs.five_bytes.push_five.Goals as goal

pub returns-clause-bytes : goal.returns-clause-bytes
returns-clause-bytes c = five_pushed c.args.to.now.items c.args.bytes _ _ _ _ _ (omega arith) c.push_reserved.ensures.items c.push_reserved-2.ensures.items c.push_reserved-3.ensures.items c.push_reserved-4.ensures.items c.push_reserved-5.ensures.items
