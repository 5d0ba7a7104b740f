-- What the table sends at the depuncturer's place is what step t sends.
use Rattle.std.proofs.Common.{ap, ◌∙◌}
use Rattle.puncture.specs.SentBits.{X, Y}
use Rattle.puncture.specs.Steps.{is_sent, has_x, has_y, Place}
use Rattle.puncture.proofs.Costs.{x_costs, y_costs}
use Rattle.puncture.proofs.plain.Depuncturer.pair.Goals as goal

pub returns-clause-numbered : goal.returns-clause-numbered
returns-clause-numbered c = λ r costs t at e f.
    let x_goes = c.sent_in_place-sent.ensures.x ∙ ap (λ (p : Place). is_sent p.rate X p.step) c.self.view_is in
    let y_goes = c.sent_in_place-sent.ensures.y ∙ ap (λ (p : Place). is_sent p.rate Y p.step) c.self.view_is in (
      c.pair_of.ensures.x ∙ x_costs c.args.self.now r costs t at c.args.first c.args.second e (has_x c.sent_in_place-sent.result) x_goes,
      c.pair_of.ensures.y ∙ y_costs c.args.self.now r costs t at c.args.first c.args.second e (has_x c.sent_in_place-sent.result) (has_y c.sent_in_place-sent.result) x_goes y_goes f,
    )
