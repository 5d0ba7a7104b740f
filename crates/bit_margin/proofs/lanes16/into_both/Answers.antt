use Rattle.std.proofs.Common.{arith, ap₂, min, ◌∙◌, ◌+◌, ◌*◌, slice_index}
use Rattle.bit_margin.proofs.lanes16.into_both.Goals as goal

pub lesser_sum-requires-clause-lens : goal.lesser_sum-requires-clause-lens
lesser_sum-requires-clause-lens c = record {
  costs_len = c.halves.ensures.even_len;
  steps_len = c.requires.zero;
  fits = λ k l. omega (arith, c.halves.ensures.even k l, c.requires.fit (2 * k) (omega (arith, l)), c.requires.zero_small k l);
}

pub lesser_sum-requires-clause-last_lens : goal.lesser_sum-requires-clause-last_lens
lesser_sum-requires-clause-last_lens c = record {
  costs_len = c.halves.ensures.odd_len;
  steps_len = c.requires.one;
  fits = λ k l. omega (arith, c.halves.ensures.odd k l, c.requires.fit (2 * k + 1) (omega (arith, l)), c.requires.one_small k l);
}

pub lesser_sum-requires-2-clause-lens : goal.lesser_sum-requires-2-clause-lens
lesser_sum-requires-2-clause-lens c = record {
  costs_len = c.halves.ensures.even_len;
  steps_len = c.requires.one;
  fits = λ k l. omega (arith, c.halves.ensures.even k l, c.requires.fit (2 * k) (omega (arith, l)), c.requires.one_small k l);
}

pub lesser_sum-requires-2-clause-last_lens : goal.lesser_sum-requires-2-clause-last_lens
lesser_sum-requires-2-clause-last_lens c = record {
  costs_len = c.halves.ensures.odd_len;
  steps_len = c.requires.zero;
  fits = λ k l. omega (arith, c.halves.ensures.odd k l, c.requires.fit (2 * k + 1) (omega (arith, l)), c.requires.zero_small k l);
}

pub returns-clause-low : goal.returns-clause-low
returns-clause-low c = λ k l. c.lesser_sum.ensures.cost k l ∙ ap₂ (λ x y. min (x + slice_index c.args.zero k) (y + slice_index c.args.one k)) (c.halves.ensures.even k l) (c.halves.ensures.odd k l)

pub returns-clause-high : goal.returns-clause-high
returns-clause-high c = λ k l. c.lesser_sum-2.ensures.cost k l ∙ ap₂ (λ x y. min (x + slice_index c.args.one k) (y + slice_index c.args.zero k)) (c.halves.ensures.even k l) (c.halves.ensures.odd k l)
