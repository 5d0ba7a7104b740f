use Rattle.std.proofs.Common.{arith, ap, ap₂, ◌∙◌, ◌+◌, ◌≡◌, slice_index, take, drop}
use Rattle.bit_margin.proofs.Lanes.{front_at, least_same, part_at}
use Rattle.bit_margin.proofs.sums.least_on.Goals as goal

pub least_through-requires-clause-before_small : goal.least_through-requires-clause-before_small
least_through-requires-clause-before_small c = λ k l. omega (arith, front_at 32 c.args.before.now k l, c.requires.small k (omega arith))

pub least_through-requires-clause-behind_small : goal.least_through-requires-clause-behind_small
least_through-requires-clause-behind_small c = λ k l. omega (arith, front_at 32 c.args.behind.now k l, c.requires.behind k (omega arith))

pub least_through-requires-2-clause-before_small : goal.least_through-requires-2-clause-before_small
least_through-requires-2-clause-before_small c = λ k l. omega (arith, part_at 32 32 c.args.before.now k l, c.requires.small (32 + k) (omega arith))

pub least_through-requires-2-clause-behind_small : goal.least_through-requires-2-clause-behind_small
least_through-requires-2-clause-behind_small c = λ k l. omega (arith, part_at 32 32 c.args.behind.now k l, c.requires.behind (32 + k) (omega arith))

pub returns-clause-zero : goal.returns-clause-zero
returns-clause-zero c =
    least_same (λ k. slice_index (take 32 c.args.before.now) k + slice_index (take 32 c.args.behind.now) k) (λ k. slice_index c.args.before.now (k + 0) + slice_index c.args.behind.now (k + 0)) 32 c.least_through.result
    (λ k l. let e : k ≡ k + 0 = omega arith in ap₂ (λ x y. x + y) (front_at 32 c.args.before.now k l ∙ ap (slice_index c.args.before.now) e) (front_at 32 c.args.behind.now k l ∙ ap (slice_index c.args.behind.now) e)) c.least_through.ensures

pub returns-clause-one : goal.returns-clause-one
returns-clause-one c =
    least_same (λ k. slice_index (take 32 (drop 32 c.args.before.now)) k + slice_index (take 32 (drop 32 c.args.behind.now)) k) (λ k. slice_index c.args.before.now (k + 32) + slice_index c.args.behind.now (k + 32)) 32 c.least_through-2.result
    (λ k l. let e : 32 + k ≡ k + 32 = omega arith in ap₂ (λ x y. x + y) (part_at 32 32 c.args.before.now k l ∙ ap (slice_index c.args.before.now) e) (part_at 32 32 c.args.behind.now k l ∙ ap (slice_index c.args.behind.now) e)) c.least_through-2.ensures
