use Rattle.mode_set.proofs.Periods.{whole_periods}
use Rattle.mode_set.proofs.laws.symbols_have_whole_periods.Goals as goal

pub returns : goal.returns
returns c = whole_periods
