use Rattle.tune_in.proofs.OfBytes.{stays_in_bytes, symbol_is_added}
use Rattle.tune_in.proofs.laws.more_bytes.Goals as goal

pub returns-clause-stays : goal.returns-clause-stays
returns-clause-stays c = stays_in_bytes c.symbols.ensures.tps

pub returns-clause-added : goal.returns-clause-added
returns-clause-added c = symbol_is_added c.symbols.ensures.next c.symbols.ensures.cells
