use Rattle.std.proofs.Common.{arith}
use Rattle.inner_decoder.proofs.Slices.{settled_all_quiet, settled_all_given, settled_all_forced}
use Rattle.inner_decoder.proofs.decoder.settle_all.Goals as goal

pub returns-then-waiting-words-clause-settles : goal.returns-then-waiting-words-clause-settles
returns-then-waiting-words-clause-settles g c = settled_all_quiet g.row.L _ c.args.words.now _ _ (g.V.Survivors.list c.push_all.new.self.inner.value) _ _ c.args.steps _ c.requires.tied c.push_all.ensures.list c.push_all.ensures.count (omega (arith, c.push_all.ensures.count, c.if-waiting-words.true, c.waiting.ensures.number))

pub returns-then-push_and_give-gt0-clause-settles : goal.returns-then-push_and_give-gt0-clause-settles
returns-then-push_and_give-gt0-clause-settles g c = settled_all_given g.row.L _ c.args.words.now _ _ _ c.args.steps c.push_and_give.result _ _ _ _ c.requires.tied c.if-push_and_give-gt0.true c.push_and_give.ensures.shared c.push_and_give.ensures.list c.push_and_give.ensures.given c.push_and_give.ensures.count

pub returns-clause-settles : goal.returns-clause-settles
returns-clause-settles g c =
    settled_all_forced g.row.L _ c.args.words.now _ _ _ c.args.steps c.push_and_give.result (g.V.Survivors.list c.push_and_give.new.self.inner.value) _ _ _ _ _ _ c.requires.tied (omega (arith, c.if-waiting-words.false, c.waiting.ensures.number)) c.if-push_and_give-gt0.false
    c.push_and_give.ensures.shared c.push_and_give.ensures.list c.push_and_give.ensures.given c.force_least.ensures.forced c.force_least.ensures.count
