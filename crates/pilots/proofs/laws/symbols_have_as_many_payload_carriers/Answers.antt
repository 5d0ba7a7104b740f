use Rattle.pilots.proofs.Periods.{many}
use Rattle.pilots.proofs.laws.symbols_have_as_many_payload_carriers.Goals as goal

pub returns : goal.returns
returns c = many c.args.mode c.args.l
