use Rattle.std.proofs.Common.{◌≡◌, ℕ, ◌+◌, ◌*◌, ◌-◌, ◌∙◌, subst, arith}
use Rattle.inner_chain.proofs.Running.{AreWords, last_put, steps_put, two_before, two_rest}
use Rattle.inner_chain.proofs.runs.write_words.Goals as goal

pub loop-half-preserved : goal.loop-half-preserved
loop-half-preserved c =
    let n : ℕ = c.args.steps in
    let step : ℕ = 2 * c.loop-half.half in
    let costs = c.args.costs.now in
    let entries = c.args.entries.now in
    let here = c.entries_of-here in
    let next = c.entries_of-next in
    let writes = c.write_two_steps.ensures in
    let old = c.loop-half.to in
    let new = c.write_two_steps.new.to in
    record {
      here = subst (λ (m : ℕ). AreWords costs entries n c.args.start c.args.first m new) (omega arith)
          (steps_put costs entries n c.args.start c.args.first step here.result next.result old new (omega (arith, c.loop-half-test.true)) here.ensures.x here.ensures.y next.ensures.x next.ensures.y c.loop-half.invariant.here writes);
      before = λ k d l. two_before costs n (c.args.first + step) k here.result next.result old new writes (omega (arith, l)) d ∙ c.loop-half.invariant.before k d l;
      rest = λ k l. two_rest costs n (c.args.first + step) k here.result next.result old new writes (omega (arith, l, c.loop-half-test.true)) ∙ c.loop-half.invariant.rest k l;
      long = writes.long ∙ c.loop-half.invariant.long;
    }

pub returns-then-steps-eq1-clause-here : goal.returns-then-steps-eq1-clause-here
returns-then-steps-eq1-clause-here c =
    let n : ℕ = c.args.steps in
    let all_but : 2 * c.loop-half.half ≡ n - 1 = omega (arith, c.if-steps-eq1.true, c.loop-half-test.false, c.loop-half.auto.half-end) in
    last_put c.args.costs.now c.args.entries.now n c.args.start c.args.first (2 * c.loop-half.half) (n - 1) _ _ c.loop-half.to _ all_but (omega (arith, c.if-steps-eq1.true)) c.entries_of-x.ensures.x c.entries_of-x.ensures.y c.loop-half.invariant.here c.write_run.ensures.here c.write_run.ensures.others
