use Rattle.std.proofs.Common.{arith, ap₂, min, ◌∙◌, ◌+◌, ◌*◌, slice_index}
use Rattle.bit_margin.proofs.Lanes.{front_at, part_at}
use Rattle.bit_margin.proofs.Ahead.{joined_forward}
use Rattle.bit_margin.proofs.lanes16.forward.Goals as goal

pub into_both-requires-clause-fit : goal.into_both-requires-clause-fit
into_both-requires-clause-fit c = λ j l. omega (arith, front_at 32 c.args.sums.now j l, c.requires.fit j (omega (arith, l)))

pub into_both-requires-2-clause-fit : goal.into_both-requires-2-clause-fit
into_both-requires-2-clause-fit c = λ j l. omega (arith, part_at 32 32 c.args.sums.now j l, c.requires.fit (32 + j) (omega (arith, l)))

pub returns : goal.returns
returns c =
    let s = c.args.sums.now in
    let near = c.first_costs.ensures c.args.pair c.four_costs-costs.ensures in
    let far = c.last_costs.ensures c.args.pair c.four_costs-costs.ensures in
    let zero = c.first_costs.result.0 in
    let one = c.first_costs.result.1 in
    let far_zero = c.last_costs.result.0 in
    let far_one = c.last_costs.result.1 in
    record {
      step =
          joined_forward c.args.pair s c.into_both.result.0 c.into_both-2.result.0 c.into_both.result.1 c.into_both-2.result.1 zero one far_zero far_one c.into_both.ensures.low_len c.into_both-2.ensures.low_len c.into_both.ensures.high_len c.into_both-2.ensures.high_len near far
          (λ k l. c.into_both.ensures.low k l ∙ ap₂ (λ x y. min (x + slice_index zero k) (y + slice_index one k)) (front_at 32 s (2 * k) (omega (arith, l))) (front_at 32 s (2 * k + 1) (omega (arith, l))))
          (λ k l. c.into_both-2.ensures.low k l ∙ ap₂ (λ x y. min (x + slice_index far_zero k) (y + slice_index far_one k)) (part_at 32 32 s (2 * k) (omega (arith, l))) (part_at 32 32 s (2 * k + 1) (omega (arith, l))))
          (λ k l. c.into_both.ensures.high k l ∙ ap₂ (λ x y. min (x + slice_index one k) (y + slice_index zero k)) (front_at 32 s (2 * k) (omega (arith, l))) (front_at 32 s (2 * k + 1) (omega (arith, l))))
          (λ k l. c.into_both-2.ensures.high k l ∙ ap₂ (λ x y. min (x + slice_index far_one k) (y + slice_index far_zero k)) (part_at 32 32 s (2 * k) (omega (arith, l))) (part_at 32 32 s (2 * k + 1) (omega (arith, l))))
          c.store_all.new.sums c.store_all.ensures;
    }
