use Rattle.std.proofs.Common.{ℕ, ◌+◌, ◌*◌, ◌<◌, List, sym, subst, refl, arith}
use Rattle.std.specs.Prelude.{slice_index}
use Rattle.soft_metric.specs.Squares.{IsSmallPair}
use Rattle.inner_chain.specs.StepPairs.{costs_in}
use Rattle.inner_chain.proofs.StepLanes.{lanes_small}
use Rattle.inner_chain.proofs.TwoSteps.{word_put, words_more}
use Rattle.inner_chain.proofs.step_pairs.write_four.Goals as goal

abbrev AllSmall : List ℕ → Type 0
AllSmall l = (k : ℕ) → k < 4 → IsSmallPair (costs_in (slice_index l k))

pub put_pairs-requires-clause-small : goal.put_pairs-requires-clause-small
put_pairs-requires-clause-small c = subst AllSmall (sym c.four_words.ensures.first) (lanes_small c.args.costs.now c.requires.costs c.args.here.0 c.args.here.1 c.args.next.0 c.args.next.1)

pub put_pairs-requires-2-clause-small : goal.put_pairs-requires-2-clause-small
put_pairs-requires-2-clause-small c = subst AllSmall (sym c.four_words.ensures.second) (lanes_small c.args.costs.now c.requires.costs (c.args.here.0 + 1) (c.args.here.1 + 1) (c.args.next.0 + 1) (c.args.next.1 + 1))

pub put_pairs-requires-3-clause-small : goal.put_pairs-requires-3-clause-small
put_pairs-requires-3-clause-small c = subst AllSmall (sym c.four_words.ensures.third) (lanes_small c.args.costs.now c.requires.costs (c.args.here.0 + 2) (c.args.here.1 + 2) (c.args.next.0 + 2) (c.args.next.1 + 2))

pub put_pairs-requires-4-clause-small : goal.put_pairs-requires-4-clause-small
put_pairs-requires-4-clause-small c = subst AllSmall (sym c.four_words.ensures.fourth) (lanes_small c.args.costs.now c.requires.costs (c.args.here.0 + 3) (c.args.here.1 + 3) (c.args.next.0 + 3) (c.args.next.1 + 3))

pub returns : goal.returns
returns c =
    let n : ℕ = c.args.steps in
    let first : ℕ = c.args.first in
    let here = c.args.here in
    let next = c.args.next in
    let costs = c.args.costs.now in
    let room = c.requires.costs in
    let two = c.requires.steps in
    let one = word_put costs here next n first first _ c.args.to.now _ room c.four_words.ensures.first refl c.put_pairs.ensures.long c.put_pairs.ensures.here c.put_pairs.ensures.next c.put_pairs.ensures.others in
    let second =
    word_put costs (here.0 + 1, here.1 + 1) (next.0 + 1, next.1 + 1) n (first + n) (first + 1 * n) _ _ _ room c.four_words.ensures.second (omega arith) c.put_pairs-2.ensures.long c.put_pairs-2.ensures.here c.put_pairs-2.ensures.next c.put_pairs-2.ensures.others
    in
    let third =
    word_put costs (here.0 + 2, here.1 + 2) (next.0 + 2, next.1 + 2) n (first + 2 * n) (first + 2 * n) _ _ _ room c.four_words.ensures.third refl c.put_pairs-3.ensures.long c.put_pairs-3.ensures.here c.put_pairs-3.ensures.next c.put_pairs-3.ensures.others
    in
    let fourth =
    word_put costs (here.0 + 3, here.1 + 3) (next.0 + 3, next.1 + 3) n (first + 3 * n) (first + 3 * n) _ _ _ room c.four_words.ensures.fourth refl c.put_pairs-4.ensures.long c.put_pairs-4.ensures.here c.put_pairs-4.ensures.next c.put_pairs-4.ensures.others
    in
    words_more costs here next 3 1 n first c.args.to.now _ _ two (words_more costs here next 2 1 n first c.args.to.now _ _ two (words_more costs here next 1 1 n first c.args.to.now _ _ two one second) third) fourth
