-- What is wanted depends on the pending bits.
use Rattle.std.proofs.Common.{ap, ◌∙◌}
use Rattle.std.specs.Prelude.{vec_capacity}
use Rattle.modulator.specs.State.{wanted}
use Rattle.modulator.proofs.Stepping.{parts_of, want_at}
use Rattle.modulator.proofs.modulator.Modulator.wants.Goals as goal

pub returns : goal.returns
returns g c =
    let i = c.self.inside in
    want_at c.steps.ensures.next g.M.Carriers.MODE i.settings c.settings_of_next-settings.result i.made (parts_of i.hp.outer i.lp.outer i.hp.waiting i.lp.waiting i.inner) i.out (vec_capacity i.labels) c.settings_of_next-settings.ensures c.self.invariant
    c.want_of.result c.want_of.ensures.hp c.want_of.ensures.lp c.want_of.ensures.symbol
    ∙ ap wanted c.self.view_is
