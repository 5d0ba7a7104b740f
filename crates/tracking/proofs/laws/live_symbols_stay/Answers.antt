-- A symbol depends on no symbol beyond the next seven.
use Rattle.tracking.proofs.Prefixes as prefixes
use Rattle.tracking.proofs.laws.live_symbols_stay.Goals as goal

pub returns : goal.returns
returns c = prefixes.live_symbols_stay
