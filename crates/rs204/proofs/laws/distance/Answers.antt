use Rattle.rs204.proofs.Codewords.{apart, one_near}
use Rattle.rs204.proofs.laws.distance.Goals as goal

pub returns-clause-apart : goal.returns-clause-apart
returns-clause-apart c = apart

pub returns-clause-near : goal.returns-clause-near
returns-clause-near c = one_near
