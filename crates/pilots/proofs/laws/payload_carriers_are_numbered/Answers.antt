use Rattle.pilots.proofs.Periods.{are_numbered}
use Rattle.pilots.proofs.laws.payload_carriers_are_numbered.Goals as goal

pub returns : goal.returns
returns c = are_numbered c.args.mode c.args.l
