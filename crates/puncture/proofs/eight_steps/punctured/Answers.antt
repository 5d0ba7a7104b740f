-- Each turn moves one step over.
use Rattle.std.proofs.Common.{◌≡◌, suc, ◌+◌, ◌-◌, ◌%◌, ap, ◌∙◌, arith}
use Rattle.spec_words.specs.Bits.{is_set, spelled}
use Rattle.mode_set.specs.StreamTable.{steps_in_period}
use Rattle.puncture.specs.Steps.{has_x, has_y}
use Rattle.puncture.proofs.Eight.{step_moved, no_steps}
use Rattle.puncture.proofs.eight_steps.punctured.Goals as goal

pub loop-step-preserved : goal.loop-step-preserved
loop-step-preserved c = record {
  within = c.next_place-place.ensures.within;
  few = omega arith;
  place = λ t is. let next : t + c.loop-step.step + 1 ≡ t + (c.loop-step.step + 1) = omega arith in
      c.next_place-place.ensures.next (t + c.loop-step.step) (c.loop-step.invariant.place t is) ∙ ap (λ n. n % steps_in_period c.args.rate) next;
  bits = λ t is.
      let size : 8 - c.loop-step.step ≡ suc (8 - (c.loop-step.step + 1)) = omega arith in
      let next : t + (c.loop-step.step + 1) ≡ t + c.loop-step.step + 1 = omega arith in
      let place : 7 - c.loop-step.step ≡ 8 - (c.loop-step.step + 1) = omega arith in
      step_moved c.args.rate (t + c.loop-step.step) (t + (c.loop-step.step + 1)) (8 - (c.loop-step.step + 1)) (8 - c.loop-step.step) c.loop-step.place c.args.x c.args.y
      (spelled c.loop-step.bits.count c.loop-step.bits.word) (spelled c.with_sent-bits.result.count c.with_sent-bits.result.word)
      (has_x c.sent_in_place-sent.result) (has_y c.sent_in_place-sent.result) c.bit_of.result c.bit_of-in-loop-step.result
      size next (c.loop-step.invariant.place t is) c.sent_in_place-sent.ensures.x c.sent_in_place-sent.ensures.y
      (c.bit_of.ensures ∙ ap (is_set c.args.x) place) (c.bit_of-in-loop-step.ensures ∙ ap (is_set c.args.y) place) c.with_sent-bits.ensures.bits
      ∙ c.loop-step.invariant.bits t is;
}

pub returns-clause-bits : goal.returns-clause-bits
returns-clause-bits c = λ t is. let done : 8 - c.loop-step.step ≡ 0 = omega arith in
    no_steps c.args.rate (t + c.loop-step.step) (8 - c.loop-step.step) c.args.x c.args.y (spelled c.loop-step.bits.count c.loop-step.bits.word) done ∙ c.loop-step.invariant.bits t is

pub returns-clause-next : goal.returns-clause-next
returns-clause-next c = λ t is. let done : c.loop-step.step ≡ 8 = omega arith in c.loop-step.invariant.place t is ∙ ap (λ n. (t + n) % steps_in_period c.args.rate) done
