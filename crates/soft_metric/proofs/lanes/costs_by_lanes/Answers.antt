use Rattle.std.proofs.Common.{◌≡◌, ◌/◌, ◌∙◌, sym, subst, length, rules}
use Rattle.std.specs.Prelude.{slice_index}
use Rattle.soft_metric.specs.Squares.{IsSmallPair}
use Rattle.soft_metric.proofs.Lanes16.{lane_at, lane_is, levels_above, lane_small, three_places}
use Rattle.soft_metric.proofs.lanes.costs_by_lanes.Goals as goal

pub lane_costs-requires-clause-above : goal.lane_costs-requires-clause-above
lane_costs-requires-clause-above c = levels_above c.args.shape c.args.hierarchy c.args.levels c.requires.levels

pub returns-clause-costs : goal.returns-clause-costs
returns-clause-costs c = λ k d l.
    let n : length c.values_of-values.result ≡ 16 = search rules in
    c.in_pairs.ensures k l
    ∙ lane_at c.values_of-values.result _ _ c.args.levels (c.args.place / 2) k n l c.lane_costs.ensures.zero c.lane_costs.ensures.one
    ∙ lane_is c.args.shape c.args.hierarchy c.args.levels (slice_index c.values_of-values.result k) c.args.place _ c.requires.levels (c.values_of-values.ensures k d l) c.requires.place

pub returns-clause-small : goal.returns-clause-small
returns-clause-small c = λ k l.
    let n : length c.values_of-values.result ≡ 16 = search rules in
    subst IsSmallPair
    (sym (c.in_pairs.ensures k l ∙ lane_at c.values_of-values.result _ _ c.args.levels (c.args.place / 2) k n l c.lane_costs.ensures.zero c.lane_costs.ensures.one))
    (lane_small c.args.levels (slice_index c.values_of-values.result k) (c.args.place / 2) (three_places c.args.shape c.args.place c.requires.place))
