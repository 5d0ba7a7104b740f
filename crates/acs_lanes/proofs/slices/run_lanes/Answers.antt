use Rattle.acs_lanes.proofs.slices.run_lanes.Goals as goal

pub returns-clause-steps : goal.returns-clause-steps
returns-clause-steps c = c.run_rest.ensures.steps _ c.run_twelves-lanes.ensures.steps
