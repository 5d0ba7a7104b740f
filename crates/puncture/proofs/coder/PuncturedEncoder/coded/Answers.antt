-- A coder at a path codes the next byte of it.
use Rattle.std.proofs.Common.{◌+◌, ◌%◌, ap, ◌∙◌, sym, subst}
use Rattle.mode_set.specs.StreamTable.{steps_in_period}
use Rattle.puncture.specs.Steps.{IsAtPath}
use Rattle.puncture.proofs.CoderLaws.{place, sent, register}
use Rattle.puncture.proofs.coder.PuncturedEncoder.coded.Goals as goal

pub returns-clause-next : goal.returns-clause-next
returns-clause-next c = λ r path t at is.
    let here = subst (λ p. IsAtPath p r path t) (sym c.self.view_is) at in
    record {
      rate = here.rate;
      step = c.punctured-place.ensures.next t (place _ r path t c.args.byte here is) ∙ ap (λ s. (t + 8) % steps_in_period s) here.rate;
      register = register _ r path t c.args.byte here is _ c.step_byte-x.ensures.register;
    }

pub returns-clause-sent : goal.returns-clause-sent
returns-clause-sent c = λ r path t at is.
    let here = subst (λ p. IsAtPath p r path t) (sym c.self.view_is) at in
    sent _ r path t c.args.byte here is c.step_byte-x.result.0 c.step_byte-x.result.1 _ c.step_byte-x.ensures.x c.step_byte-x.ensures.y (c.punctured-place.ensures.bits t (place _ r path t c.args.byte here is))
