use Rattle.reception.proofs.Nothing.{nothing_given, nothing_live}
use Rattle.reception.proofs.laws.nothing.Goals as goal

pub returns-clause-given : goal.returns-clause-given
returns-clause-given c = nothing_given

pub returns-clause-live : goal.returns-clause-live
returns-clause-live c = nothing_live
