use Rattle.std.proofs.Common.{◌∙◌, ap, get_or, take, drop}
use Rattle.acs_lanes.proofs.Vectors.{last_part, same_part}
use Rattle.acs_lanes.proofs.LaneLaws.{lanes_joined}
use Rattle.acs_lanes.proofs.lanes.step_all.Goals as goal

pub joined-requires-clause-last : goal.joined-requires-clause-last
joined-requires-clause-last c = (c.last_half-last_low.ensures.half c.args.pair c.four_costs-costs.ensures).low_taken.small

pub joined-requires-2-clause-last : goal.joined-requires-2-clause-last
joined-requires-2-clause-last c = (c.last_half-last_low.ensures.half c.args.pair c.four_costs-costs.ensures).high_taken.small

pub returns : goal.returns
returns c =
    let p = c.args.pair in
    let old = c.args.cost.now in
    let before = c.last_half-last_low.new.cost in
    record {
      step =
          lanes_joined p old (take 32 before) (take 32 (drop 32 old)) c.first_half-low.new.cost before c.last_half-last_low.new.waiting c.store.new.cost c.first_half-low.result.0 c.last_half-last_low.result.0 c.first_half-low.result.1 c.last_half-last_low.result.1 c.joined.result c.joined-2.result
          (same_part old before c.last_half-last_low.ensures.same) (last_part old) (c.first_half-low.ensures.half p c.four_costs-costs.ensures) (c.last_half-last_low.ensures.half p c.four_costs-costs.ensures)
          c.first_half-low.ensures.same (λ k l. c.store.ensures.here k l ∙ ap (λ z. get_or z k 0) c.read.ensures) c.store.ensures.below c.store.ensures.above
          (record { low = c.joined.ensures.low; high = c.joined.ensures.high; small = c.joined.ensures.small }) (record { low = c.joined-2.ensures.low; high = c.joined-2.ensures.high; small = c.joined-2.ensures.small });
    }
