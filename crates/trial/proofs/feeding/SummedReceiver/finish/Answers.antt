use Rattle.std.proofs.Common.{sym, subst}
use Rattle.receiver.specs.Seen.{ReceiverState}
use Rattle.trial.specs.Feeding.{HasEnded}
use Rattle.trial.proofs.PieceSteps.{all_given}
use Rattle.trial.proofs.feeding.SummedReceiver.finish.Goals as goal

pub returns-clause-ended : goal.returns-clause-ended
returns-clause-ended g c = λ bytes h.
    let w = c.args.self.now in
    let x : ReceiverState = c.finish.new.self in
    subst (λ (z : ReceiverState). HasEnded z bytes c.add.new.self.hp c.add.new.self.lp) (sym c.add.ensures.receiver)
    (all_given w.receiver x bytes w.hp w.lp c.add.new.self.hp c.add.new.self.lp c.finish.new.out h c.finish.ensures.settings (c.finish.ensures.finished bytes h.given h.stands) c.add.ensures.hp c.add.ensures.lp)
