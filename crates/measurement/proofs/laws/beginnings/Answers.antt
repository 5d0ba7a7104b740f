use Rattle.measurement.proofs.Begins.{live_begins_live, live_begins_final}
use Rattle.measurement.proofs.laws.beginnings.Goals as goal

pub returns : goal.returns
returns c = record { live = live_begins_live c.sums_stay.ensures.law c.one_sums.ensures.law; last = live_begins_final c.sums_stay.ensures.law c.one_sums.ensures.law }
