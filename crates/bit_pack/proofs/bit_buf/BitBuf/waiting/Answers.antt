use Rattle.std.proofs.Common.{arith, ap, length}
use Rattle.bit_pack.proofs.Spelling.{length_queue}
use Rattle.bit_pack.proofs.bit_buf.BitBuf.waiting.Goals as goal

pub returns-clause-number : goal.returns-clause-number
returns-clause-number g c = omega (arith, ap length c.self.view_is, length_queue c.self.inside.bytes c.self.inside.first c.self.inside.count c.self.inside.front c.self.inside.front_len c.self.inside.back c.self.inside.back_len (omega (arith, c.self.told, c.self.invariant.first_within)) (omega (arith, c.self.told, c.self.invariant.within)))
