use Rattle.pilots.proofs.Periods.{same_kind, same_carriers}
use Rattle.pilots.proofs.laws.kinds_repeat.Goals as goal

pub returns-clause-kinds : goal.returns-clause-kinds
returns-clause-kinds c = λ k l. same_kind c.args.mode c.args.l k

pub returns-clause-carriers : goal.returns-clause-carriers
returns-clause-carriers c = same_carriers c.args.mode c.args.l
