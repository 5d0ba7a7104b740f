use Rattle.std.proofs.Common.{arith, ap, length}
use Rattle.bit_pack.proofs.Spelling.{length-spelled}
use Rattle.bit_pack.proofs.bit_word.BitWord.waiting.Goals as goal

pub returns-clause-number : goal.returns-clause-number
returns-clause-number c = omega (arith, ap length c.self.view_is, length-spelled c.self.inside.count c.self.inside.bits)
