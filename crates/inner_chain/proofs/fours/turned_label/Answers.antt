use Rattle.inner_chain.proofs.Quads.{six_bits}
use Rattle.inner_chain.proofs.fours.turned_label.Goals as goal

pub returns-clause-bits : goal.returns-clause-bits
returns-clause-bits c = six_bits c.args.twice.now c.args.j c.label.result c.label.ensures.zero c.label.ensures.one c.label.ensures.two c.label.ensures.three c.label.ensures.four c.label.ensures.five
