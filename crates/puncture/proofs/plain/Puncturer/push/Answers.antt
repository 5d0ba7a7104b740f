-- What the table sends at the puncturer's place is what step t sends.
use Rattle.std.proofs.Common.{◌+◌, ◌++◌, ap, ◌∙◌}
use Rattle.puncture.specs.SentBits.{X, Y, sent_bits}
use Rattle.puncture.specs.Steps.{is_sent, has_x, has_y, Place, sent_before}
use Rattle.puncture.proofs.Pushed.{pushed}
use Rattle.puncture.proofs.Runs.{joined, step_grows}
use Rattle.puncture.proofs.plain.Puncturer.push.Goals as goal

pub returns-clause-sent : goal.returns-clause-sent
returns-clause-sent g c = λ r path t at x y.
    let x_goes = c.sent_in_place.ensures.x ∙ ap (λ (p : Place). is_sent p.rate X p.step) c.self.view_is in
    let y_goes = c.sent_in_place.ensures.y ∙ ap (λ (p : Place). is_sent p.rate Y p.step) c.self.view_is in
    c.push_sent.ensures.bits ∙ ap (λ bits. c.args.to.now ++ bits) (pushed c.args.self.now r path t c.args.coded.0 c.args.coded.1 (has_x c.sent_in_place.result) (has_y c.sent_in_place.result) x_goes y_goes at x y)

pub returns-clause-holds : goal.returns-clause-holds
returns-clause-holds g c = λ r path t a at x y first held.
    returns-clause-sent g c r path t at x y ∙ ap (λ bits. bits ++ sent_bits r path (sent_before r t) (sent_before r (t + 1))) held
    ∙ joined r path a (sent_before r t) (sent_before r (t + 1)) first (step_grows r t)
