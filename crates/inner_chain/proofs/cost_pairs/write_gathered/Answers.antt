use Rattle.std.proofs.Common.{ℕ, ◌+◌, ◌<◌, ◌∙◌, refl, arith, length, length-set}
use Rattle.std.proofs.lemmas.List.{drop-set-lt}
use Rattle.inner_chain.proofs.CostReading.{before_more, here_more}
use Rattle.inner_chain.proofs.cost_pairs.write_gathered.Goals as goal

pub loop-step-preserved : goal.loop-step-preserved
loop-step-preserved c =
    let first : ℕ = c.args.first in
    let n : ℕ = c.loop-step.step in
    let within : first + n < length c.loop-step.to = omega (arith, c.loop-step-test.true, c.requires.room, c.loop-step.invariant.long) in
    record {
      here = here_more c.args.costs.now c.args.entries.now first n c.loop-step.to _ within (record { x = refl; y = refl }) c.loop-step.invariant.here;
      before = before_more first n c.loop-step.to _ _ c.loop-step.invariant.before;
      rest = λ k l. let past : first + n < k = omega (arith, l) in drop-set-lt k c.loop-step.to (first + n) _ past ∙ c.loop-step.invariant.rest k (omega (arith, l));
      long = length-set c.loop-step.to (first + n) _ ∙ c.loop-step.invariant.long;
    }
