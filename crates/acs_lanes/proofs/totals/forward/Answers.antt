use Rattle.acs_lanes.proofs.totals.forward.Goals as goal

pub returns : goal.returns
returns c =
    let s = c.step_all-words.ensures.step in
    record { step = record { zero = s.low_cost; one = s.high_cost } }
