use Rattle.inner_decoder.proofs.Stand.{settled_quiet, settled_given, settled_forced}
use Rattle.std.proofs.Common.{arith}
use Rattle.inner_decoder.proofs.decoder.settle.Goals as goal

pub returns-then-waiting-clause-settles : goal.returns-then-waiting-clause-settles
returns-then-waiting-clause-settles g c = settled_quiet g.row.L _ _ _ _ c.args.steps _ c.requires.tied (omega (arith, c.if-waiting.true, c.waiting.ensures.number))

pub returns-then-shared-gt0-clause-settles : goal.returns-then-shared-gt0-clause-settles
returns-then-shared-gt0-clause-settles g c = settled_given g.row.L _ _ _ _ c.args.steps c.shared-shared.result _ _ _ _ c.requires.tied c.if-shared-gt0.true c.shared-shared.ensures.shared c.give.ensures.list c.give.ensures.given c.give.ensures.count

pub returns-clause-settles : goal.returns-clause-settles
returns-clause-settles g c =
    let b = c.force_least.ensures.forced in
    settled_forced g.row.L _ _ _ _ c.args.steps b.state _ _ _ c.shared-shared.result _ _ c.requires.tied (omega (arith, c.if-waiting.false, c.waiting.ensures.number)) c.if-shared-gt0.false c.shared-shared.ensures.shared b.best b.given
    b.lives b.cost b.none c.force_least.ensures.count
