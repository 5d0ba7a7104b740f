use Rattle.reception.proofs.Symbols.{same_symbols, one_symbol_more, tail_is_unfinished, more_unfinished, ended_symbol, cells_stay, weights_stay, tps_cells_stay}
use Rattle.reception.proofs.Received.{same_bits}
use Rattle.reception.proofs.laws.symbols.Goals as goal

pub returns-clause-same : goal.returns-clause-same
returns-clause-same c = same_symbols

pub returns-clause-next : goal.returns-clause-next
returns-clause-next c = one_symbol_more

pub returns-clause-tail : goal.returns-clause-tail
returns-clause-tail c = tail_is_unfinished

pub returns-clause-unfinished : goal.returns-clause-unfinished
returns-clause-unfinished c = more_unfinished

pub returns-clause-ended : goal.returns-clause-ended
returns-clause-ended c = ended_symbol

pub returns-clause-cells : goal.returns-clause-cells
returns-clause-cells c = cells_stay

pub returns-clause-weights : goal.returns-clause-weights
returns-clause-weights c = weights_stay

pub returns-clause-tps : goal.returns-clause-tps
returns-clause-tps c = tps_cells_stay

pub returns-clause-bits : goal.returns-clause-bits
returns-clause-bits c = same_bits
