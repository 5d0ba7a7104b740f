use Rattle.std.proofs.Common.{◌+◌, ◌<◌, ◌%◌, ◌≡◌, ℕ, arith}
use Rattle.mode_set.specs.StreamTable.{label_bits}
use Rattle.soft_metric.proofs.Writing.{label_is_even, side_first, side_more, then_written}
use Rattle.soft_metric.proofs.planes.write_side.Goals as goal

pub returns-in-4-clause-writes : goal.returns-in-4-clause-writes
returns-in-4-clause-writes g c =
    then_written c.args.axes.shape c.args.axes.hierarchy c.args.cells.now c.args.weights.now _ _ _ c.write_place-in-4.ensures.writes c.write_place-in-4-2.ensures.writes

pub returns-in-4-clause-here : goal.returns-in-4-clause-here
returns-in-4-clause-here g c = λ f k l m from to.
    let s = c.args.axes.shape in
    let h = c.args.axes.hierarchy in
    let cells = c.args.cells.now in
    let weights = c.args.weights.now in
    let q : ℕ = c.args.q in
    let side : ℕ = c.args.side in
    let second : 2 + side < label_bits s = omega (arith, c.requires.places, c.in-4.is, c.requires.side) in
    let within : f < 2 + side + 2 = omega (arith, l, m, c.requires.places, c.in-4.is, c.requires.side) in
    let even : (2 + side) % 2 ≡ side = omega (arith, c.requires.side) in
    side_more s h cells weights (2 + side) q side _ _ c.write_place-in-4-2.ensures.writes second c.requires.within
    (λ f k l m from to. side_first s h cells weights q side _ c.requires.side c.write_place-in-4.ensures.here f k (omega (arith, l)) m from to)
    even c.write_place-in-4-2.ensures.here f k within m from to

pub returns-in_default-clause-writes : goal.returns-in_default-clause-writes
returns-in_default-clause-writes g c =
    then_written c.args.axes.shape c.args.axes.hierarchy c.args.cells.now c.args.weights.now _ _ _
    (then_written c.args.axes.shape c.args.axes.hierarchy c.args.cells.now c.args.weights.now _ _ _ c.write_place-in_default.ensures.writes c.write_place-in_default-2.ensures.writes)
    c.write_place-in_default-3.ensures.writes

pub returns-in_default-clause-here : goal.returns-in_default-clause-here
returns-in_default-clause-here g c = λ f k l m from to.
    let s = c.args.axes.shape in
    let h = c.args.axes.hierarchy in
    let cells = c.args.cells.now in
    let weights = c.args.weights.now in
    let q : ℕ = c.args.q in
    let side : ℕ = c.args.side in
    let many : label_bits s ≡ 6 = omega (arith, label_is_even s, c.requires.places, c.in_default) in
    let second : 2 + side < label_bits s = omega (arith, many, c.requires.side) in
    let third : 4 + side < label_bits s = omega (arith, many, c.requires.side) in
    let within : f < 4 + side + 2 = omega (arith, l, m, many, c.requires.side) in
    let even_second : (2 + side) % 2 ≡ side = omega (arith, c.requires.side) in
    let even_third : (4 + side) % 2 ≡ side = omega (arith, c.requires.side) in
    side_more s h cells weights (4 + side) q side _ _ c.write_place-in_default-3.ensures.writes third c.requires.within
    (λ f k l m from to. side_more s h cells weights (2 + side) q side _ _ c.write_place-in_default-2.ensures.writes second c.requires.within
    (λ f k l m from to. side_first s h cells weights q side _ c.requires.side c.write_place-in_default.ensures.here f k (omega (arith, l)) m from to)
    even_second c.write_place-in_default-2.ensures.here f k (omega (arith, l)) m from to)
    even_third c.write_place-in_default-3.ensures.here f k within m from to
