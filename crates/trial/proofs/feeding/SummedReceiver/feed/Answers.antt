use Rattle.std.proofs.Common.{◌++◌, sym, subst}
use Rattle.receiver.specs.Seen.{ReceiverState}
use Rattle.trial.specs.Feeding.{HasGiven}
use Rattle.trial.proofs.PieceSteps.{more_given}
use Rattle.trial.proofs.feeding.SummedReceiver.feed.Goals as goal

pub returns-clause-given : goal.returns-clause-given
returns-clause-given g c = λ bytes fits h.
    let w = c.args.self.now in
    let x : ReceiverState = c.feed_gated.new.self in
    subst (λ (z : ReceiverState). HasGiven z (bytes ++ c.args.piece.now) c.add.new.self.hp c.add.new.self.lp) (sym c.add.ensures.receiver)
    (more_given w.receiver x bytes c.args.piece.now c.feed_gated.result w.hp w.lp c.add.new.self.hp c.add.new.self.lp c.feed_gated.new.out h fits (c.feed_gated.ensures.fed bytes h.given h.stands) c.add.ensures.hp c.add.ensures.lp)
