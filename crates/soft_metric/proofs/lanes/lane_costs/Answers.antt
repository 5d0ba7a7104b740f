use Rattle.std.proofs.Common.{arith}
use Rattle.soft_metric.proofs.Vectors.{outer_zero, outer_one, inner_zero, inner_one, sign_zero, sign_one}
use Rattle.soft_metric.proofs.lanes.lane_costs.Goals as goal

pub returns-in-0-clause-zero : goal.returns-in-0-clause-zero
returns-in-0-clause-zero c =
    sign_zero c.args.values _ _ _ _ _ c.args.levels c.fits-values.0 c.magnitudes_of-magnitudes.ensures.values c.near_costs-first.ensures c.near_costs-second.ensures c.near_costs-third.ensures c.near_costs-last.ensures c.args.axis _ _ _ _ c.in-0.is (c.requires.levels 3) c.lesser.ensures c.lesser-in-0.ensures c.lesser-near.ensures c.scaled-far.ensures

pub returns-in-0-clause-one : goal.returns-in-0-clause-one
returns-in-0-clause-one c =
    sign_one c.args.values _ _ _ _ _ c.args.levels c.fits-values.0 c.magnitudes_of-magnitudes.ensures.values c.near_costs-first.ensures c.near_costs-second.ensures c.near_costs-third.ensures c.near_costs-last.ensures c.args.axis _ _ _ _ c.in-0.is (c.requires.levels 3) c.lesser.ensures c.lesser-in-0.ensures c.lesser-near.ensures c.scaled-far.ensures

pub returns-in-1-clause-zero : goal.returns-in-1-clause-zero
returns-in-1-clause-zero c =
    outer_zero c.args.values _ _ _ _ _ c.args.levels c.fits-values.0 c.magnitudes_of-magnitudes.ensures.values c.near_costs-first.ensures c.near_costs-second.ensures c.near_costs-third.ensures c.near_costs-last.ensures c.args.axis c.args.values c.args.values _ c.in-1.is c.lesser-in-1.ensures

pub returns-in-1-clause-one : goal.returns-in-1-clause-one
returns-in-1-clause-one c =
    outer_one c.args.values _ _ _ _ _ c.args.levels c.fits-values.0 c.magnitudes_of-magnitudes.ensures.values c.near_costs-first.ensures c.near_costs-second.ensures c.near_costs-third.ensures c.near_costs-last.ensures c.args.axis c.args.values c.args.values _ c.in-1.is c.lesser-in-1-2.ensures

pub returns-in_default-clause-zero : goal.returns-in_default-clause-zero
returns-in_default-clause-zero c =
    inner_zero c.args.values _ _ _ _ _ c.args.levels c.fits-values.0 c.magnitudes_of-magnitudes.ensures.values c.near_costs-first.ensures c.near_costs-second.ensures c.near_costs-third.ensures c.near_costs-last.ensures c.args.axis c.args.values c.args.values _ (omega (arith, c.requires.axis, c.in_default)) c.lesser-in_default.ensures

pub returns-in_default-clause-one : goal.returns-in_default-clause-one
returns-in_default-clause-one c =
    inner_one c.args.values _ _ _ _ _ c.args.levels c.fits-values.0 c.magnitudes_of-magnitudes.ensures.values c.near_costs-first.ensures c.near_costs-second.ensures c.near_costs-third.ensures c.near_costs-last.ensures c.args.axis c.args.values c.args.values _ (omega (arith, c.requires.axis, c.in_default)) c.lesser-in_default-2.ensures
