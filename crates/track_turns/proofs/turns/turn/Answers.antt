-- The turn, by the sum of the products.
use Rattle.std.proofs.Common.{◌≡◌, ℕ, ◌<◌, length, get_or, ap, sym, ◌∙◌}
use Rattle.mode_set.specs.declared.modes.Mode.{Mode}
use Rattle.tracking.specs.Comb.{comb_of, continual_points, points}
use Rattle.track_arithmetic.specs.Numbers.{direction, shifted}
use Rattle.track_turns.proofs.Turning.{correlated, turn_other, mode_of, at_points}
use Rattle.track_turns.proofs.turns.turn.Goals as goal

pub returns-clause-is : goal.returns-clause-is
returns-clause-is g c = λ symbols h.
    let m : Mode = g.M.Carriers.MODE in
    let comb = comb_of m symbols in
    let all = c.continual_points.result.now in
    let is = c.continual_points.ensures.is ∙ ap continual_points (c.MODE.ensures ∙ sym (mode_of m symbols)) in
    let here = at_points comb c.args.m m all c.MODE.result c.row.result.now c.MODE.ensures c.continual_points.ensures.within (λ j lt. c.row.ensures.is symbols j h lt) in
    let there = at_points comb c.args.t m all c.MODE.result c.row-2.result.now c.MODE.ensures c.continual_points.ensures.within (λ j lt. c.row-2.ensures.is symbols j h lt) in
    turn_other comb c.args.m c.args.t c.direction.result c.if-m-t.false (c.direction.ensures.is ∙ ap direction (c.shifted.ensures ∙ ap (shifted 8) c.products-sum.ensures.is ∙ correlated comb c.args.m c.args.t all c.row.result.now c.row-2.result.now is here there))
