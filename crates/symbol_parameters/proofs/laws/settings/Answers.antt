use Rattle.symbol_parameters.proofs.Constant.{mode_stays, guard_stays, cell_id_stays, start_stays, parameters_change, hp_exists, lp_is_there, streams_exist, settings_stay, constant_streams}
use Rattle.symbol_parameters.proofs.laws.settings.Goals as goal

pub returns-clause-mode : goal.returns-clause-mode
returns-clause-mode c = mode_stays

pub returns-clause-guard : goal.returns-clause-guard
returns-clause-guard c = guard_stays

pub returns-clause-cell_id : goal.returns-clause-cell_id
returns-clause-cell_id c = cell_id_stays

pub returns-clause-start : goal.returns-clause-start
returns-clause-start c = start_stays

pub returns-clause-parameters : goal.returns-clause-parameters
returns-clause-parameters c = parameters_change

pub returns-clause-hp : goal.returns-clause-hp
returns-clause-hp c = hp_exists

pub returns-clause-lp : goal.returns-clause-lp
returns-clause-lp c = lp_is_there

pub returns-clause-exist : goal.returns-clause-exist
returns-clause-exist c = streams_exist

pub returns-clause-same : goal.returns-clause-same
returns-clause-same c = settings_stay

pub returns-clause-streams : goal.returns-clause-streams
returns-clause-streams c = constant_streams
