use Rattle.std.proofs.Common.{◌≡◌, ℕ, ◌+◌, ◌<◌, length, refl, subst, arith}
use Rattle.inner_chain.specs.StepPairs.{WritesWords}
use Rattle.inner_chain.proofs.FourSteps.{step_set}
use Rattle.inner_chain.proofs.four_steps.write_word.Goals as goal

pub loop-step-preserved : goal.loop-step-preserved
loop-step-preserved c = λ n.
    let w = c.loop-step.invariant n in
    let within : c.args.first + c.loop-step.step < length c.loop-step.to = omega (arith, c.loop-step-test.true, c.requires.room, w.long) in
    step_set c.args.costs.now c.args.entries.now c.args.word c.loop-step.step n c.args.first c.args.to.now c.loop-step.to _ within (record { x_is = refl; y_is = refl }) w

pub returns : goal.returns
returns c = λ n.
    let four : c.loop-step.step ≡ 4 = omega (arith, c.loop-step-test.false, c.loop-step.auto.step-end) in
    subst (λ (m : ℕ). WritesWords c.args.word 1 m c.args.costs.now c.args.entries.now n c.args.first c.args.to.now c.loop-step.to) four (c.loop-step.invariant n)
