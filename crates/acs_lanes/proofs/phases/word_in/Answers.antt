use Rattle.acs_lanes.proofs.PhaseMarks.{low_bits, high_bits}
use Rattle.acs_lanes.proofs.phases.word_in.Goals as goal

pub returns-clause-low : goal.returns-clause-low
returns-clause-low c = λ is_odd h. low_bits c.args.phase c.requires.phase c.args.low c.args.high c.requires.small is_odd h

pub returns-clause-high : goal.returns-clause-high
returns-clause-high c = λ is_odd h. high_bits c.args.phase c.requires.phase c.args.low c.args.high c.requires.small is_odd h
