use Rattle.std.proofs.Common.{◌∙◌}
use Rattle.acs_lanes.proofs.Back.{zip_even, zip_odd}
use Rattle.acs_lanes.proofs.totals.from_both.Goals as goal

pub returns-clause-even : goal.returns-clause-even
returns-clause-even c = λ k l. zip_even c.pick-even_word.result.0 c.pick-odd_word.result.0 k c.pick-even_word.ensures.len l ∙ c.pick-even_word.ensures.cost k l

pub returns-clause-odd : goal.returns-clause-odd
returns-clause-odd c = λ k l. zip_odd c.pick-even_word.result.0 c.pick-odd_word.result.0 k c.pick-even_word.ensures.len l ∙ c.pick-odd_word.ensures.cost k l
