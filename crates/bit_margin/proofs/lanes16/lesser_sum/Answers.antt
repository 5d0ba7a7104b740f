use Rattle.acs_lanes.proofs.Sums16.{least_len, cost_at}
use Rattle.bit_margin.proofs.lanes16.lesser_sum.Goals as goal

pub returns-clause-len : goal.returns-clause-len
returns-clause-len c =
    least_len c.args.first c.args.first_step c.args.last c.args.last_step c.requires.lens.costs_len c.requires.lens.steps_len c.requires.last_lens.costs_len c.requires.last_lens.steps_len c.requires.lens.fits c.requires.last_lens.fits

pub returns-clause-cost : goal.returns-clause-cost
returns-clause-cost c =
    cost_at c.args.first c.args.first_step c.args.last c.args.last_step c.requires.lens.costs_len c.requires.lens.steps_len c.requires.last_lens.costs_len c.requires.last_lens.steps_len c.requires.lens.fits c.requires.last_lens.fits
