use Rattle.gf256.proofs.FieldLaws.{some_power, power_add, whole_turn}
use Rattle.gf256.proofs.TableRules.{powers_differ}
use Rattle.gf256.proofs.laws.powers.Goals as goal

pub returns-clause-each : goal.returns-clause-each
returns-clause-each c = some_power

pub returns-clause-differ : goal.returns-clause-differ
returns-clause-differ c = powers_differ

pub returns-clause-repeat : goal.returns-clause-repeat
returns-clause-repeat c = whole_turn

pub returns-clause-add : goal.returns-clause-add
returns-clause-add c = power_add
