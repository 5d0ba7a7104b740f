use Rattle.law_link.proofs.UpgradedCells.{upgraded_are_whole, same_cells}
use Rattle.law_link.proofs.Plain.{upgraded_costs_are_plain}
use Rattle.law_link.proofs.upgraded.upgraded_costs.Goals as goal

pub returns-clause-whole : goal.returns-clause-whole
returns-clause-whole c = upgraded_are_whole

pub returns-clause-cells : goal.returns-clause-cells
returns-clause-cells c = same_cells

pub returns-clause-plain : goal.returns-clause-plain
returns-clause-plain c = upgraded_costs_are_plain c.whole_weight_changes_nothing.ensures c.costs.ensures.long c.costs.ensures.step
