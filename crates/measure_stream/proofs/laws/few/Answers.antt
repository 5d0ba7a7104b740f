use Rattle.measure_stream.proofs.Meters.{counts_few}
use Rattle.measure_stream.proofs.laws.few.Goals as goal

pub returns : goal.returns
returns c = record { counts = counts_few c.rooms.ensures.steps c.steps.ensures.none c.words.ensures.whole }
