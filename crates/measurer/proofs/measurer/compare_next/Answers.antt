use Rattle.std.proofs.Common.{arith}
use Rattle.measurer.proofs.Giving.{settled_first}
use Rattle.measurer.proofs.measurer.compare_next.Goals as goal

pub returns-else-taken-gt-LATER-clause-hp_settled : goal.returns-else-taken-gt-LATER-clause-hp_settled
returns-else-taken-gt-LATER-clause-hp_settled g c = (settled_first c.steps.ensures.none c.args.meter.now c.requires.begun (omega (arith, c.requires.next, c.if-taken-gt-LATER.false))).0

pub returns-else-taken-gt-LATER-clause-lp_settled : goal.returns-else-taken-gt-LATER-clause-lp_settled
returns-else-taken-gt-LATER-clause-lp_settled g c = (settled_first c.steps.ensures.none c.args.meter.now c.requires.begun (omega (arith, c.requires.next, c.if-taken-gt-LATER.false))).1
