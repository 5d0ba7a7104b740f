use Rattle.trial.proofs.SmallCells.{cells_are_small, cells_are_read, fed_symbols_are_long}
use Rattle.trial.proofs.laws.cells.Goals as goal

pub returns-clause-small : goal.returns-clause-small
returns-clause-small c = cells_are_small

pub returns-clause-read : goal.returns-clause-read
returns-clause-read c = cells_are_read c.symbols.ensures.cells

pub returns-clause-long : goal.returns-clause-long
returns-clause-long c = fed_symbols_are_long
