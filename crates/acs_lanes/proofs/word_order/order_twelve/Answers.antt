use Rattle.acs_lanes.proofs.Orders.{twelve_ordered}
use Rattle.acs_lanes.proofs.word_order.order_twelve.Goals as goal

pub returns-clause-here : goal.returns-clause-here
returns-clause-here c =
    let a = c.move_four.ensures in
    let b = c.move_four-2.ensures in
    let d = c.move_four-3.ensures in
    twelve_ordered _ _ _ _ c.args.from a.here b.here d.here a.above b.below b.above d.below
