use Rattle.std.proofs.Common.{ap, ap₂, ◌∙◌, ◌++◌, ◌*◌, ◌+◌, get_or}
use Rattle.acs_lanes.proofs.LaneLaws.{even_lanes, odd_lanes}
use Rattle.acs_lanes.proofs.Vectors.{both_halves}
use Rattle.bit_margin.proofs.lanes16.halves.Goals as goal

pub returns-clause-even : goal.returns-clause-even
returns-clause-even c = λ k l. even_lanes (c.read.result ++ c.read-2.result) k l ∙ ap (λ w. get_or w (2 * k) 0) (ap₂ (λ x y. x ++ y) c.read.ensures c.read-2.ensures ∙ both_halves 16 c.args.sums.now)

pub returns-clause-odd : goal.returns-clause-odd
returns-clause-odd c = λ k l. odd_lanes (c.read.result ++ c.read-2.result) k l ∙ ap (λ w. get_or w (2 * k + 1) 0) (ap₂ (λ x y. x ++ y) c.read.ensures c.read-2.ensures ∙ both_halves 16 c.args.sums.now)
