use Rattle.reception.proofs.CostLists.{AreSteps, costs_grow, same_costs, next_costs, no_costs, costs_are_steps, cost_of_step, no_costs_without}
use Rattle.reception.proofs.laws.costs.Goals as goal

pub returns : goal.returns
returns c =
    let steps : AreSteps = record { none = c.steps.ensures.none; more = c.steps.ensures.next; grow = c.steps.ensures.grow } in
    record { grow = costs_grow; same = same_costs; next = next_costs; none = no_costs; long = costs_are_steps steps; step = cost_of_step steps; without = no_costs_without c.steps.ensures.streams }
