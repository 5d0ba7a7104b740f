use Rattle.law_link.proofs.ReadBack.{cells_are_read, own_are_within, clean_law, own_are_clean}
use Rattle.law_link.proofs.laws.own_cells.Goals as goal

pub returns-clause-cells : goal.returns-clause-cells
returns-clause-cells c = cells_are_read c.symbols.ensures.long c.symbols.ensures.cells

pub returns-clause-within : goal.returns-clause-within
returns-clause-within c = own_are_within c.symbols.ensures.long c.symbols.ensures.cells

pub returns-clause-packets : goal.returns-clause-packets
returns-clause-packets c = clean_law c.symbols.ensures.long c.symbols.ensures.cells c.noise.ensures.packets

pub returns-clause-clean : goal.returns-clause-clean
returns-clause-clean c = own_are_clean c.symbols.ensures.long c.symbols.ensures.cells c.noise.ensures.clean
