use Rattle.transmission.proofs.SymbolLists.{symbols_are_cells, symbols_are_long, no_symbol, one_symbol_more, front_of_symbols, part_of_symbols}
use Rattle.transmission.proofs.laws.symbols.Goals as goal

pub returns-clause-cells : goal.returns-clause-cells
returns-clause-cells c = symbols_are_cells c.settings.ensures.mode

pub returns-clause-long : goal.returns-clause-long
returns-clause-long c = symbols_are_long c.settings.ensures.mode

pub returns-clause-none : goal.returns-clause-none
returns-clause-none c = no_symbol

pub returns-clause-next : goal.returns-clause-next
returns-clause-next c = one_symbol_more

pub returns-clause-front : goal.returns-clause-front
returns-clause-front c = front_of_symbols

pub returns-clause-part : goal.returns-clause-part
returns-clause-part c = part_of_symbols
