-- The mode is that of the type.
use Rattle.std.proofs.Common.{◌<◌, ap, sym, ◌∙◌, subst}
use Rattle.mode_set.specs.StreamTable.{carriers}
use Rattle.mode_set.specs.declared.modes.Mode.{Mode}
use Rattle.tracking.specs.Comb.{points}
use Rattle.tracking.specs.InFrequency.{carrier_gain}
use Rattle.track_cells.specs.Gains.{gain_of}
use Rattle.tracker.proofs.gains.carrier_gains.Goals as goal

pub interpolate-requires-clause-points : goal.interpolate-requires-clause-points
interpolate-requires-clause-points g c = c.requires.gains ∙ ap points (sym c.MODE.ensures)

pub interpolate-requires-clause-room : goal.interpolate-requires-clause-room
interpolate-requires-clause-room g c = c.requires.centred ∙ ap points (sym c.MODE.ensures)

pub interpolate-requires-clause-carriers : goal.interpolate-requires-clause-carriers
interpolate-requires-clause-carriers g c = c.requires.carriers ∙ ap carriers (sym c.MODE.ensures)

pub returns-clause-centred : goal.returns-clause-centred
returns-clause-centred g c = c.interpolate.ensures.room ∙ ap points c.MODE.ensures

pub returns-clause-carriers : goal.returns-clause-carriers
returns-clause-carriers g c = c.interpolate.ensures.carriers ∙ ap carriers c.MODE.ensures

pub returns-clause-is : goal.returns-clause-is
returns-clause-is g c = λ k lt.
    let few : k < carriers c.MODE.result = subst (λ (z : Mode). k < carriers z) (sym c.MODE.ensures) lt in
    c.interpolate.ensures.is k few ∙ ap (λ (z : Mode). carrier_gain c.args.guard z (gain_of c.args.gains.now) k) c.MODE.ensures
