use Rattle.std.proofs.Common.{◌∙◌}
use Rattle.bit_margin.proofs.Zipped.{zip_even, zip_odd}
use Rattle.bit_margin.proofs.lanes16.from_both.Goals as goal

pub returns-clause-even : goal.returns-clause-even
returns-clause-even c = λ k l. zip_even c.lesser_sum-even.result c.lesser_sum-odd.result k c.lesser_sum-even.ensures.len l ∙ c.lesser_sum-even.ensures.cost k l

pub returns-clause-odd : goal.returns-clause-odd
returns-clause-odd c = λ k l. zip_odd c.lesser_sum-even.result c.lesser_sum-odd.result k c.lesser_sum-even.ensures.len l ∙ c.lesser_sum-odd.ensures.cost k l
