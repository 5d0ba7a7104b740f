use Rattle.std.proofs.Common.{◌≡◌, ℕ, ◌+◌, ◌*◌, ◌∙◌, ap, subst, arith}
use Rattle.inner_chain.specs.StepPairs.{WritesSteps}
use Rattle.inner_chain.proofs.TwoSteps.{words_more}
use Rattle.inner_chain.proofs.step_pairs.write_two_steps.Goals as goal

pub loop-four-preserved : goal.loop-four-preserved
loop-four-preserved c =
    let n : ℕ = c.args.steps in
    let word : ℕ = 4 * c.loop-four.four in
    let costs = c.args.costs.now in
    let here = c.args.here in
    let next = c.args.next in
    let from = c.loop-four.to in
    let to = c.write_four.new.to in
    let four = subst (λ (i : ℕ). WritesSteps 4 costs (here.0 + word, here.1 + word) (next.0 + word, next.1 + word) n i from to) c.loop-four.invariant.place c.write_four.ensures in
    record {
      place = omega (arith, c.loop-four.invariant.place);
      writes = subst (λ (m : ℕ). WritesSteps m costs here next n c.args.first c.args.to.now to) (omega arith) (words_more costs here next word 4 n c.args.first c.args.to.now from to c.requires.some c.loop-four.invariant.writes four);
    }

pub returns : goal.returns
returns c =
    let n : ℕ = c.args.steps in
    let costs = c.args.costs.now in
    let here = c.args.here in
    let next = c.args.next in
    let from = c.loop-four.to in
    let five : c.loop-four.four ≡ 5 = omega (arith, c.loop-four-test.false, c.loop-four.auto.four-end) in
    let whole = subst (λ (m : ℕ). WritesSteps (4 * m) costs here next n c.args.first c.args.to.now from) five c.loop-four.invariant.writes in
    let place : c.loop-four.at ≡ c.args.first + 20 * n = c.loop-four.invariant.place ∙ ap (λ (m : ℕ). c.args.first + 4 * m * n) five in
    let last = subst (λ (i : ℕ). WritesSteps 1 costs (here.0 + 20, here.1 + 20) (next.0 + 20, next.1 + 20) n i from c.write_one.new.to) place (c.write_one.ensures n) in
    words_more costs here next 20 1 n c.args.first c.args.to.now from _ c.requires.some whole last
