-- The change, by the sum of the differences.
use Rattle.std.proofs.Common.{◌≡◌, ℕ, ◌-◌, ◌<◌, length, get_or, ap, sym, ◌∙◌}
use Rattle.mode_set.specs.declared.modes.Mode.{Mode}
use Rattle.tracking.specs.Comb.{comb_of, continual_points, points}
use Rattle.track_turns.proofs.Turning.{changed, mode_of, at_points}
use Rattle.track_turns.proofs.turns.change.Goals as goal

pub returns-clause-is : goal.returns-clause-is
returns-clause-is g c = λ symbols h.
    let m : Mode = g.M.Carriers.MODE in
    let comb = comb_of m symbols in
    let all = c.continual_points.result.now in
    let is = c.continual_points.ensures.is ∙ ap continual_points (c.MODE.ensures ∙ sym (mode_of m symbols)) in
    let here = at_points comb c.args.t m all c.MODE.result c.row.result.now c.MODE.ensures c.continual_points.ensures.within (λ j lt. c.row.ensures.is symbols j h lt) in
    let there = at_points comb (c.args.t - 1) m all c.MODE.result c.row-2.result.now c.MODE.ensures c.continual_points.ensures.within (λ j lt. c.row-2.ensures.is symbols j h lt) in
    c.differences.ensures.is ∙ changed comb c.args.t all c.row.result.now c.row-2.result.now c.turn-phase.result is here there (c.turn-phase.ensures.is symbols h)
