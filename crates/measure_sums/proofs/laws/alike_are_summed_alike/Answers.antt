use Rattle.measure_sums.proofs.Summing.{alike}
use Rattle.measure_sums.proofs.laws.alike_are_summed_alike.Goals as goal

pub returns : goal.returns
returns c = alike
