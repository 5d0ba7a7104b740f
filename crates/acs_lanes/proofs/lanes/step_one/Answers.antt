use Rattle.acs_lanes.proofs.LaneLaws.{lanes_step, ready_settled, all_stay}
use Rattle.acs_lanes.proofs.lanes.step_one.Goals as goal

pub returns : goal.returns
returns c = record {
  step =
      lanes_step c.args.sums.now c.args.sums.now 0 c.args.pair c.step_lanes-low.new.cost c.step_lanes-low.result.0 c.step_lanes-low.result.1 (ready_settled c.args.sums.now (c.is_ready.ensures.ready c.if-not-is_ready.false)) c.step_lanes-low.ensures.step
      c.args.sums.now.alive (all_stay c.args.sums.now (c.is_ready.ensures.ready c.if-not-is_ready.false));
}
