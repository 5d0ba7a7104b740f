use Rattle.std.proofs.Common.{◌+◌, ◌*◌, ℕ, length, refl}
use Rattle.soft_metric.proofs.Lanes16.{levels_above}
use Rattle.soft_metric.proofs.Writing.{Put, lanes_put, put_writes, put_here}
use Rattle.soft_metric.proofs.planes.write_place.Goals as goal

pub write_lanes-requires-clause-above : goal.write_lanes-requires-clause-above
write_lanes-requires-clause-above g c = levels_above c.args.axes.shape c.args.axes.hierarchy c.args.axes.levels c.requires.levels

pub returns-clause-writes : goal.returns-clause-writes
returns-clause-writes g c =
    let s = c.args.axes.shape in
    let h = c.args.axes.hierarchy in
    let cells = c.args.cells.now in
    let weights = c.args.weights.now in
    let q : ℕ = c.args.q in
    let e : ℕ = c.args.place in
    let first : ℕ = e * length cells + q in
    let p : Put s h cells weights e q 16 first c.args.to.now c.write_lanes.new.to =
    lanes_put s h cells weights c.args.axes.levels c.args.sixteen.values c.args.sixteen.weights e q first _ _ c.requires.levels refl c.requires.place c.requires.within c.requires.weights c.requires.values c.requires.lane_weights
    c.write_lanes.ensures.long c.write_lanes.ensures.here c.write_lanes.ensures.below c.write_lanes.ensures.above in
    put_writes s h cells weights e q 16 first _ _ p

pub returns-clause-here : goal.returns-clause-here
returns-clause-here g c =
    let s = c.args.axes.shape in
    let h = c.args.axes.hierarchy in
    let cells = c.args.cells.now in
    let weights = c.args.weights.now in
    let q : ℕ = c.args.q in
    let e : ℕ = c.args.place in
    let first : ℕ = e * length cells + q in
    let p : Put s h cells weights e q 16 first c.args.to.now c.write_lanes.new.to =
    lanes_put s h cells weights c.args.axes.levels c.args.sixteen.values c.args.sixteen.weights e q first _ _ c.requires.levels refl c.requires.place c.requires.within c.requires.weights c.requires.values c.requires.lane_weights
    c.write_lanes.ensures.long c.write_lanes.ensures.here c.write_lanes.ensures.below c.write_lanes.ensures.above in
    put_here s h cells weights e q 16 first _ _ p
