use Rattle.std.proofs.Common.{ℕ, ◌*◌, ◌≤◌, ◌∙◌, arith}
use Rattle.inner_chain.proofs.Running.{run_more, times_most}
use Rattle.inner_chain.proofs.runs.write_runs.Goals as goal

pub loop-run-preserved : goal.loop-run-preserved
loop-run-preserved c =
    let n : ℕ = c.args.steps in
    let r : ℕ = c.loop-run.run in
    let most : r * n ≤ 11 * n = times_most r 11 n (omega (arith, c.loop-run-test.true)) in
    record {
      here = run_more c.args.costs.now c.args.entries.now n r (21 * r * n) c.args.first c.loop-run.to _ c.requires.runs c.requires.costs (omega (arith, c.loop-run-test.true)) (omega arith) c.loop-run.invariant.here c.write_words.ensures.here c.write_words.ensures.before;
      before = λ k d l. c.write_words.ensures.before k d (omega (arith, l)) ∙ c.loop-run.invariant.before k d l;
      rest = λ k l. c.write_words.ensures.rest k (omega (arith, most, l)) ∙ c.loop-run.invariant.rest k l;
      long = c.write_words.ensures.long ∙ c.loop-run.invariant.long;
    }
