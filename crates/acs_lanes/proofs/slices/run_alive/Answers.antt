use Rattle.std.proofs.Common.{sym}
use Rattle.acs_lanes.specs.Lanes16.{all_with, laid}
use Rattle.acs_plain.proofs.Rows.{steps_spread}
use Rattle.acs_lanes.proofs.Shifts.{low_all, high_all, spread_shifted, widened}
use Rattle.acs_lanes.proofs.slices.run_alive.Goals as goal

pub narrow-requires-clause-low : goal.narrow-requires-clause-low
narrow-requires-clause-low c = low_all c.args.sums.now c.least-low.result c.requires.alive c.least-low.ensures.least

pub narrow-requires-clause-high : goal.narrow-requires-clause-high
narrow-requires-clause-high c = high_all c.args.sums.now c.least-low.result c.requires.alive c.requires.spread c.least-low.ensures.attained

pub run_lanes-lanes-requires-clause-spread : goal.run_lanes-lanes-requires-clause-spread
run_lanes-lanes-requires-clause-spread c = spread_shifted c.args.sums.now (all_with (laid c.narrow.result.a c.narrow.result.b c.narrow.result.c c.narrow.result.d)) c.least-low.result (sym c.requires.alive) c.narrow.ensures.is c.requires.spread

pub returns-clause-steps : goal.returns-clause-steps
returns-clause-steps c = widened c.args.sums.now (laid c.narrow.result.a c.narrow.result.b c.narrow.result.c c.narrow.result.d) c.least-low.result c.args.pairs.now _ c.widen.new.cost c.run_lanes-lanes.new.words c.requires.alive c.narrow.ensures.is c.requires.some c.run_lanes-lanes.ensures.steps c.widen.ensures

pub returns-clause-spread : goal.returns-clause-spread
returns-clause-spread c = steps_spread c.args.sums.now c.args.pairs.now _ c.run_lanes-lanes.new.words (widened c.args.sums.now (laid c.narrow.result.a c.narrow.result.b c.narrow.result.c c.narrow.result.d) c.least-low.result c.args.pairs.now _ c.widen.new.cost c.run_lanes-lanes.new.words c.requires.alive c.narrow.ensures.is c.requires.some c.run_lanes-lanes.ensures.steps c.widen.ensures) c.requires.spread
