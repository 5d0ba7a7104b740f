use Rattle.std.proofs.Common.{arith, ◌∙◌}
use Rattle.inner_chain.proofs.CostEntering.{step_fits, number_next, step_more}
use Rattle.inner_chain.proofs.cost_entries.write_cost_entries.Goals as goal

pub push_step-bit-requires-clause-within : goal.push_step-bit-requires-clause-within
push_step-bit-requires-clause-within c =
    step_fits c.args.settings.now c.steps_are_numbered.ensures c.args.stream c.rate-rate.result c.loop-step.step c.loop-step.bit _ _ c.rate-rate.ensures c.sent.ensures.x c.sent.ensures.y c.loop-step.invariant.number
    (omega (arith, c.block_steps-step-end.ensures.steps, c.loop-step-test.true))

pub loop-step-preserved : goal.loop-step-preserved
loop-step-preserved c = record {
  number = number_next c.args.settings.now c.steps_are_numbered.ensures c.args.stream c.rate-rate.result c.loop-step.step c.loop-step.bit _ _ _ c.rate-rate.ensures c.sent.ensures.x c.sent.ensures.y c.loop-step.invariant.number c.push_step-bit.ensures.next;
  entries = step_more c.args.settings.now c.steps_are_numbered.ensures c.args.stream c.rate-rate.result c.loop-step.step c.loop-step.bit _ _ _ _ c.rate-rate.ensures c.sent.ensures.x c.sent.ensures.y c.loop-step.invariant.number c.loop-step.invariant.entries c.push_step-bit.ensures.entries;
  capacity = c.push_step-bit.ensures.capacity ∙ c.loop-step.invariant.capacity;
}

pub push_step-bit-requires-clause-spare : goal.push_step-bit-requires-clause-spare
push_step-bit-requires-clause-spare c = omega (arith, c.loop-step.invariant.entries.long, c.loop-step.invariant.capacity, c.requires.spare, c.block_steps-step-end.ensures.few, c.loop-step-test.true)
