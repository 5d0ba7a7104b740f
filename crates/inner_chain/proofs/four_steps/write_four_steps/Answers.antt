use Rattle.std.proofs.Common.{◌≡◌, ℕ, ◌+◌, ◌*◌, ◌∙◌, ap, refl, subst, arith}
use Rattle.inner_chain.specs.StepPairs.{WritesWords}
use Rattle.inner_chain.proofs.FourSteps.{words_more}
use Rattle.inner_chain.proofs.four_steps.write_four_steps.Goals as goal

pub loop-four-preserved : goal.loop-four-preserved
loop-four-preserved c =
    let n : ℕ = c.args.steps in
    let word : ℕ = 4 * c.loop-four.four in
    let costs = c.args.costs.now in
    let es = c.args.entries.now in
    let from = c.loop-four.to in
    let to = c.write_square.new.to in
    record {
      place = omega (arith, c.loop-four.invariant.place);
      writes = subst (λ (m : ℕ). WritesWords 0 m 4 costs es n c.args.first c.args.to.now to) (omega arith)
          (words_more costs es 0 word word 4 n c.args.first c.loop-four.at c.args.to.now from to c.requires.some (omega arith) c.loop-four.invariant.place c.loop-four.invariant.writes c.write_square.ensures);
    }

pub returns : goal.returns
returns c =
    let n : ℕ = c.args.steps in
    let costs = c.args.costs.now in
    let es = c.args.entries.now in
    let from = c.loop-four.to in
    let five : c.loop-four.four ≡ 5 = omega (arith, c.loop-four-test.false, c.loop-four.auto.four-end) in
    let whole = subst (λ (m : ℕ). WritesWords 0 (4 * m) 4 costs es n c.args.first c.args.to.now from) five c.loop-four.invariant.writes in
    let place : c.loop-four.at ≡ c.args.first + 20 * n = c.loop-four.invariant.place ∙ ap (λ (m : ℕ). c.args.first + 4 * m * n) five in
    words_more costs es 0 20 20 1 n c.args.first c.loop-four.at c.args.to.now from _ c.requires.some refl place whole (c.write_word.ensures n)
