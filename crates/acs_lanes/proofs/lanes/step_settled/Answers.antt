use Rattle.std.proofs.Common.{◌∙◌, ap, ◌||◌}
use Rattle.spec_words.specs.Bits.{is_set}
use Rattle.code_paths.specs.States.{even_of, odd_of}
use Rattle.acs_lanes.proofs.LaneLaws.{lanes_step}
use Rattle.acs_lanes.proofs.lanes.step_settled.Goals as goal

pub returns : goal.returns
returns c = record {
  step =
      lanes_step c.args.sums.now c.settle-low.new.sums c.settle-low.result c.args.pair c.step_lanes-low.new.cost c.step_lanes-low.result.0 c.step_lanes-low.result.1 c.settle-low.ensures.settled c.step_lanes-low.ensures.step
      c.followers-sums.result
      (λ n l. c.followers-sums.ensures.lives n l ∙ ap (λ w. is_set w (even_of n) || is_set w (odd_of n)) c.settle-low.ensures.alive);
}
