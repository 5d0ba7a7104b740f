use Rattle.std.proofs.Common.{arith, refl, ap₂, ◌+◌, slice_index}
use Rattle.bit_margin.proofs.Lanes.{least_same}
use Rattle.bit_margin.proofs.low_margin.wide_margin.Goals as goal

pub least_on-zero-requires-clause-small : goal.least_on-zero-requires-clause-small
least_on-zero-requires-clause-small c = λ n l. omega (arith, c.wide.ensures n l, c.requires.before n l)

pub least_on-zero-requires-clause-behind : goal.least_on-zero-requires-clause-behind
least_on-zero-requires-clause-behind c = λ n l. omega (arith, c.requires.behind n l)

pub returns : goal.returns
returns c =
    let u = c.args.before in
    let v = c.args.behind.now in
    record {
      zero = c.least_on-zero.result.0;
      one = c.least_on-zero.result.1;
      least_zero = least_same (λ k. slice_index c.wide.result (k + 0) + slice_index v (k + 0)) (λ k. slice_index u (k + 0) + slice_index v (k + 0)) 32 _ (λ k l. ap₂ (λ x y. x + y) (c.wide.ensures (k + 0) (omega (arith, l))) refl) c.least_on-zero.ensures.zero;
      least_one = least_same (λ k. slice_index c.wide.result (k + 32) + slice_index v (k + 32)) (λ k. slice_index u (k + 32) + slice_index v (k + 32)) 32 _ (λ k l. ap₂ (λ x y. x + y) (c.wide.ensures (k + 32) (omega (arith, l))) refl) c.least_on-zero.ensures.one;
      is = c.abs_diff.ensures;
    }
