use Rattle.std.proofs.Common.{ℕ, ◌+◌, ◌*◌, ◌∙◌, refl, subst, arith}
use Rattle.inner_chain.proofs.Running.{AreWords}
use Rattle.inner_chain.proofs.FourSteps.{four_before, four_put, four_rest}
use Rattle.inner_chain.proofs.runs.write_fours.Goals as goal

pub loop-four-preserved : goal.loop-four-preserved
loop-four-preserved c =
    let n : ℕ = c.args.steps in
    let step : ℕ = 4 * c.loop-four.four in
    let costs = c.args.costs.now in
    let entries = c.args.entries.now in
    let es = c.four_entries-here.result in
    let writes = c.write_four_steps.ensures in
    let old = c.loop-four.to in
    let new = c.write_four_steps.new.to in
    record {
      here = subst (λ (m : ℕ). AreWords costs entries n c.args.start c.args.first m new) (omega arith)
          (four_put costs entries n c.args.start c.args.first step (c.args.start + step) (c.args.first + step) es old new (omega (arith, c.loop-four-test.true)) refl refl c.four_entries-here.ensures c.loop-four.invariant.here writes);
      before = λ k d l. four_before costs es n (c.args.first + step) k old new writes (omega (arith, l)) d ∙ c.loop-four.invariant.before k d l;
      rest = λ k l. four_rest costs es n (c.args.first + step) k old new writes (omega (arith, l, c.loop-four-test.true)) ∙ c.loop-four.invariant.rest k l;
      long = writes.long ∙ c.loop-four.invariant.long;
    }
