use Rattle.rs204.proofs.Codewords.{message_code, message_one}
use Rattle.rs204.proofs.laws.codewords.Goals as goal

pub returns-clause-some : goal.returns-clause-some
returns-clause-some c = message_code

pub returns-clause-one : goal.returns-clause-one
returns-clause-one c = message_one
