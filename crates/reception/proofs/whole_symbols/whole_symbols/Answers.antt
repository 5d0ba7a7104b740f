use Rattle.reception.proofs.WholeFiles.{whole_symbols_alike}
use Rattle.reception.proofs.whole_symbols.whole_symbols.Goals as goal

pub returns : goal.returns
returns c = whole_symbols_alike c.symbols.ensures.same c.costs.ensures.same c.symbols.ensures.tail c.symbols.ensures.tps c.symbols.ensures.bits
