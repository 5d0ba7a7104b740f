use Rattle.acs_lanes.proofs.PhaseTurns.{lanes_fit, lower_eights_below, lower_eights_len, upper_eights_below, upper_eights_len}
use Rattle.acs_lanes.proofs.phases.by_eights.Goals as goal

pub invariant_of-result : goal.invariant_of-result
invariant_of-result c = record {
  lanes =
      lanes_fit _ _ _ _ (lower_eights_len _ c.args.x0 c.args.y0 c.eights_apart.ensures.lower) (lower_eights_len _ c.args.x1 c.args.y1 c.eights_apart-2.ensures.lower) (upper_eights_len _ c.args.x0 c.args.y0 c.eights_apart.ensures.upper) (upper_eights_len _ c.args.x1 c.args.y1 c.eights_apart-2.ensures.upper)
      (lower_eights_below _ c.args.x0 c.args.y0 c.eights_apart.ensures.lower c.fits-x0.1 c.fits-y0.1) (lower_eights_below _ c.args.x1 c.args.y1 c.eights_apart-2.ensures.lower c.fits-x1.1 c.fits-y1.1)
      (upper_eights_below _ c.args.x0 c.args.y0 c.eights_apart.ensures.upper c.fits-x0.1 c.fits-y0.1) (upper_eights_below _ c.args.x1 c.args.y1 c.eights_apart-2.ensures.upper c.fits-x1.1 c.fits-y1.1);
}
