-- The point is that of the label.
use Rattle.measure_sums.proofs.Placing.{counted_is, point_is}
use Rattle.measure_sums.proofs.place.Constellation.counted.Goals as goal

pub returns-clause-is : goal.returns-clause-is
returns-clause-is c =
    counted_is c.self.inside.shape c.self.inside.hierarchy c.args.self.now c.args.label c.args.received _ _ _ _ _ _ _ c.self.view_is
    (point_is c.self.inside.shape c.self.inside.hierarchy c.args.self.now c.self.inside.points c.args.label _ c.self.invariant.points_are c.self.view_is c.requires)
    c.power.ensures.is c.error.ensures.is c.self.invariant.hp_are c.self.invariant.lp_are c.wrong-hp_wrong.ensures.hp c.wrong-hp_wrong.ensures.lp
