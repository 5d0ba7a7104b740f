use Rattle.gf256.proofs.FieldLaws.{mul_xor_left}
use Rattle.gf256.proofs.laws.distribution.Goals as goal

pub returns : goal.returns
returns c = mul_xor_left
