use Rattle.std.proofs.Common.{arith, ap₂, ◌∙◌, ◌+◌, slice_index}
use Rattle.bit_margin.proofs.Lanes.{front_at, least_of_both, rest_at}
use Rattle.bit_margin.proofs.sums.least_through.Goals as goal

pub both-first-requires-clause-before_small : goal.both-first-requires-clause-before_small
both-first-requires-clause-before_small c = λ k l. omega (arith, front_at 16 c.args.before.now k l, c.requires.before_small k (omega arith))

pub both-first-requires-clause-behind_small : goal.both-first-requires-clause-behind_small
both-first-requires-clause-behind_small c = λ k l. omega (arith, front_at 16 c.args.behind.now k l, c.requires.behind_small k (omega arith))

pub both-last-requires-clause-before_small : goal.both-last-requires-clause-before_small
both-last-requires-clause-before_small c = λ k l. omega (arith, rest_at 16 c.args.before.now k (omega (arith, c.requires.before_len)), c.requires.before_small (16 + k) (omega arith))

pub both-last-requires-clause-behind_small : goal.both-last-requires-clause-behind_small
both-last-requires-clause-behind_small c = λ k l. omega (arith, rest_at 16 c.args.behind.now k (omega (arith, c.requires.behind_len)), c.requires.behind_small (16 + k) (omega arith))

pub returns : goal.returns
returns c =
    least_of_both (λ k. slice_index c.args.before.now k + slice_index c.args.behind.now k) c.both-first.result c.both-last.result c.lesser.result c.least_lane.result
    (λ k l. c.both-first.ensures.is k l ∙ ap₂ (λ x y. x + y) (front_at 16 c.args.before.now k l) (front_at 16 c.args.behind.now k l))
    (λ k l. c.both-last.ensures.is k l ∙ ap₂ (λ x y. x + y) (rest_at 16 c.args.before.now k (omega (arith, c.requires.before_len))) (rest_at 16 c.args.behind.now k (omega (arith, c.requires.behind_len))))
    c.lesser.ensures.is c.least_lane.ensures
