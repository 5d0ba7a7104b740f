use Rattle.symbol_parameters.proofs.Adding.{no_steps, steps_of_one_more, steps_grow, steps_have_symbols, one_symbol}
use Rattle.symbol_parameters.proofs.Constant.{constant_steps, steps_are_of_a_stream}
use Rattle.symbol_parameters.proofs.laws.steps.Goals as goal

pub returns-clause-none : goal.returns-clause-none
returns-clause-none c = no_steps

pub returns-clause-next : goal.returns-clause-next
returns-clause-next c = steps_of_one_more

pub returns-clause-grow : goal.returns-clause-grow
returns-clause-grow c = steps_grow

pub returns-clause-symbols : goal.returns-clause-symbols
returns-clause-symbols c = steps_have_symbols

pub returns-clause-one : goal.returns-clause-one
returns-clause-one c = one_symbol

pub returns-clause-constant : goal.returns-clause-constant
returns-clause-constant c = constant_steps

pub returns-clause-streams : goal.returns-clause-streams
returns-clause-streams c = steps_are_of_a_stream
