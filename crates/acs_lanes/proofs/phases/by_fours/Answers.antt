use Rattle.acs_lanes.proofs.PhaseTurns.{lanes_fit, lower_fours_below, lower_fours_len, upper_fours_below, upper_fours_len}
use Rattle.acs_lanes.proofs.phases.by_fours.Goals as goal

pub invariant_of-result : goal.invariant_of-result
invariant_of-result c = record {
  lanes =
      lanes_fit _ _ _ _ (lower_fours_len _ c.args.x0 c.args.y0 c.fours_apart.ensures.lower) (lower_fours_len _ c.args.x1 c.args.y1 c.fours_apart-2.ensures.lower) (upper_fours_len _ c.args.x0 c.args.y0 c.fours_apart.ensures.upper) (upper_fours_len _ c.args.x1 c.args.y1 c.fours_apart-2.ensures.upper)
      (lower_fours_below _ c.args.x0 c.args.y0 c.fours_apart.ensures.lower c.fits-x0.1 c.fits-y0.1) (lower_fours_below _ c.args.x1 c.args.y1 c.fours_apart-2.ensures.lower c.fits-x1.1 c.fits-y1.1)
      (upper_fours_below _ c.args.x0 c.args.y0 c.fours_apart.ensures.upper c.fits-x0.1 c.fits-y0.1) (upper_fours_below _ c.args.x1 c.args.y1 c.fours_apart-2.ensures.upper c.fits-x1.1 c.fits-y1.1);
}
