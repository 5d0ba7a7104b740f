use Rattle.std.proofs.Common.{ℕ, ◌*◌, ◌<◌, ◌≤◌, ◌∙◌, refl, arith, length, length-set}
use Rattle.std.proofs.lemmas.List.{drop-set-lt}
use Rattle.inner_chain.proofs.Running.{times_most, pair_put, others_put}
use Rattle.inner_chain.proofs.runs.write_run.Goals as goal

pub loop-word-preserved : goal.loop-word-preserved
loop-word-preserved c =
    let first : ℕ = c.args.first in
    let n : ℕ = c.args.steps in
    let w : ℕ = c.loop-word.word in
    let at : ℕ = c.loop-word.at in
    let place = c.loop-word.invariant.place in
    let most : w * n ≤ 20 * n = times_most w 20 n (omega (arith, c.loop-word-test.true)) in
    let within : at < length c.loop-word.to = omega (arith, place, most, c.requires.room, c.loop-word.invariant.long) in
    record {
      place = omega (arith, place);
      here = pair_put c.args.costs.now c.args.x c.args.y first n w at c.loop-word.to _ place c.requires.some within (record { x_is = refl; y_is = refl }) c.loop-word.invariant.here;
      others = others_put first n w at c.loop-word.to _ _ place c.loop-word.invariant.others;
      rest = λ k l. let past : at < k = omega (arith, place, most, l) in drop-set-lt k c.loop-word.to at _ past ∙ c.loop-word.invariant.rest k l;
      long = length-set c.loop-word.to at _ ∙ c.loop-word.invariant.long;
    }
