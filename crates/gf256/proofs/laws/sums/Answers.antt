use lib.Bits.{xor_comm}
use Rattle.gf256.proofs.FieldLaws.{xor_small}
use Rattle.gf256.proofs.laws.sums.Goals as goal

pub returns-clause-element : goal.returns-clause-element
returns-clause-element c = xor_small

pub returns-clause-commutes : goal.returns-clause-commutes
returns-clause-commutes c = xor_comm
