use Rattle.std.proofs.Common.{ℕ, ◌+◌, ◌*◌, ◌<◌, List, sym, subst, refl, arith}
use Rattle.std.specs.Prelude.{slice_index}
use Rattle.soft_metric.specs.Squares.{IsSmallPair}
use Rattle.inner_chain.specs.StepPairs.{costs_in}
use Rattle.inner_chain.proofs.FourSteps.{word_put, word_small, words_more}
use Rattle.inner_chain.proofs.four_steps.write_square.Goals as goal

abbrev AllSmall : List ℕ → Type 0
AllSmall l = (k : ℕ) → k < 8 → IsSmallPair (costs_in (slice_index l k))

pub put_pairs-requires-clause-small : goal.put_pairs-requires-clause-small
put_pairs-requires-clause-small c = subst AllSmall (sym c.four_words.ensures.first) (word_small c.args.costs.now c.args.entries.now (λ n. n + c.args.word) c.requires.costs)

pub put_pairs-requires-2-clause-small : goal.put_pairs-requires-2-clause-small
put_pairs-requires-2-clause-small c = subst AllSmall (sym c.four_words.ensures.second) (word_small c.args.costs.now c.args.entries.now (λ n. n + c.args.word + 1) c.requires.costs)

pub put_pairs-requires-3-clause-small : goal.put_pairs-requires-3-clause-small
put_pairs-requires-3-clause-small c = subst AllSmall (sym c.four_words.ensures.third) (word_small c.args.costs.now c.args.entries.now (λ n. n + c.args.word + 2) c.requires.costs)

pub put_pairs-requires-4-clause-small : goal.put_pairs-requires-4-clause-small
put_pairs-requires-4-clause-small c = subst AllSmall (sym c.four_words.ensures.fourth) (word_small c.args.costs.now c.args.entries.now (λ n. n + c.args.word + 3) c.requires.costs)

pub returns : goal.returns
returns c =
    let n : ℕ = c.args.steps in
    let first : ℕ = c.args.first in
    let word : ℕ = c.args.word in
    let costs = c.args.costs.now in
    let es = c.args.entries.now in
    let room = c.requires.costs in
    let some = c.requires.steps in
    let zero = c.put_pairs.ensures in
    let one = c.put_pairs-2.ensures in
    let two = c.put_pairs-3.ensures in
    let three = c.put_pairs-4.ensures in
    let w0 = word_put costs es (λ z. z + word) word n first first _ c.args.to.now _ room c.four_words.ensures.first (λ z. refl) refl zero.long zero.zero zero.one zero.two zero.three zero.others in
    let w1 = word_put costs es (λ z. z + word + 1) (word + 1) n (first + n) (first + n) _ _ _ room c.four_words.ensures.second (λ z. omega arith) refl one.long one.zero one.one one.two one.three one.others in
    let w2 = word_put costs es (λ z. z + word + 2) (word + 2) n (first + 2 * n) (first + 2 * n) _ _ _ room c.four_words.ensures.third (λ z. omega arith) refl two.long two.zero two.one two.two two.three two.others in
    let w3 = word_put costs es (λ z. z + word + 3) (word + 3) n (first + 3 * n) (first + 3 * n) _ _ _ room c.four_words.ensures.fourth (λ z. omega arith) refl three.long three.zero three.one three.two three.three three.others in
    words_more costs es word (word + 3) 3 1 n first (first + 3 * n) c.args.to.now _ _ some refl refl
    (words_more costs es word (word + 2) 2 1 n first (first + 2 * n) c.args.to.now _ _ some refl refl (words_more costs es word (word + 1) 1 1 n first (first + n) c.args.to.now _ _ some refl (omega arith) w0 w1) w2) w3
