-- Each form of the command line is run as its command.
use Rattle.std.proofs.Common.{ℕ, refl, ◌∙◌, sym, ap, subst, Option, Some}
use Rattle.station_core.specs.Meaning.{Meaning}
use Rattle.cmd_base.specs.Run.{Run}
use Rattle.cmd_base.specs.declared.refusal.Refusal.TheVariants.{Usage}
use Rattle.cmd_base.proofs.Early.{unstarted_ended}
use Rattle.cmd_base.proofs.Whole.{run_refused}
use Rattle.dvbt_top.specs.declared.form.Form.{Form}
use Rattle.dvbt_top.specs.Commands.{Order, command_for, no_command, order}
use Rattle.dvbt_top.proofs.top.run_gated.Goals as goal

pub returns-in-Some-Disperse : goal.returns-in-Some-Disperse
returns-in-Some-Disperse g c =
    let old : Meaning = g.S.Station.meaning c.args.station.now in
    let new : Meaning = g.S.Station.meaning c.disperse.new.station in
    subst (λ (x : Option Order). Run (command_for x) c.args.limits.packets old new c.disperse.result)
    (ap (λ (f : Form). Some (order f)) (sym c.in-Some-Disperse.field-0-is) ∙ c.in-Some-Disperse.ensures) c.disperse.ensures

pub returns-in-Some-Outer : goal.returns-in-Some-Outer
returns-in-Some-Outer g c =
    let old : Meaning = g.S.Station.meaning c.args.station.now in
    let new : Meaning = g.S.Station.meaning c.outer.new.station in
    subst (λ (x : Option Order). Run (command_for x) c.args.limits.packets old new c.outer.result)
    (ap (λ (f : Form). Some (order f)) (sym c.in-Some-Outer.field-0-is) ∙ c.in-Some-Outer.ensures) c.outer.ensures

pub returns-in-Some-Inner : goal.returns-in-Some-Inner
returns-in-Some-Inner g c =
    let old : Meaning = g.S.Station.meaning c.args.station.now in
    let new : Meaning = g.S.Station.meaning c.inner.new.station in
    subst (λ (x : Option Order). Run (command_for x) c.args.limits.packets old new c.inner.result)
    (ap (λ (f : Form). Some (order f)) (sym c.in-Some-Inner.field-0-is) ∙ c.in-Some-Inner.ensures) c.inner.ensures

pub returns-in-Some-Modulate : goal.returns-in-Some-Modulate
returns-in-Some-Modulate g c =
    let old : Meaning = g.S.Station.meaning c.args.station.now in
    let new : Meaning = g.S.Station.meaning c.modulate.new.station in
    subst (λ (x : Option Order). Run (command_for x) c.args.limits.packets old new c.modulate.result)
    (ap (λ (f : Form). Some (order f)) (sym c.in-Some-Modulate.field-0-is) ∙ c.in-Some-Modulate.ensures) c.modulate.ensures

pub returns-in-Some-Receive : goal.returns-in-Some-Receive
returns-in-Some-Receive g c =
    let old : Meaning = g.S.Station.meaning c.args.station.now in
    let new : Meaning = g.S.Station.meaning c.receive.new.station in
    subst (λ (x : Option Order). Run (command_for x) c.args.limits.packets old new c.receive.result)
    (ap (λ (f : Form). Some (order f)) (sym c.in-Some-Receive.field-0-is) ∙ c.in-Some-Receive.ensures) c.receive.ensures

pub returns-in-Some-Rescue : goal.returns-in-Some-Rescue
returns-in-Some-Rescue g c =
    let old : Meaning = g.S.Station.meaning c.args.station.now in
    let new : Meaning = g.S.Station.meaning c.rescue.new.station in
    subst (λ (x : Option Order). Run (command_for x) c.args.limits.packets old new c.rescue.result)
    (ap (λ (f : Form). Some (order f)) (sym c.in-Some-Rescue.field-0-is) ∙ c.in-Some-Rescue.ensures) c.rescue.ensures

pub returns-in-Some-Tune : goal.returns-in-Some-Tune
returns-in-Some-Tune g c =
    let old : Meaning = g.S.Station.meaning c.args.station.now in
    let new : Meaning = g.S.Station.meaning c.tune.new.station in
    subst (λ (x : Option Order). Run (command_for x) c.args.limits.packets old new c.tune.result)
    (ap (λ (f : Form). Some (order f)) (sym c.in-Some-Tune.field-0-is) ∙ c.in-Some-Tune.ensures) c.tune.ensures

pub returns-in-Some-Align : goal.returns-in-Some-Align
returns-in-Some-Align g c =
    let old : Meaning = g.S.Station.meaning c.args.station.now in
    let new : Meaning = g.S.Station.meaning c.align.new.station in
    subst (λ (x : Option Order). Run (command_for x) c.args.limits.packets old new c.align.result)
    (ap (λ (f : Form). Some (order f)) (sym c.in-Some-Align.field-0-is) ∙ c.in-Some-Align.ensures) c.align.ensures

pub returns-in-Some-Measure : goal.returns-in-Some-Measure
returns-in-Some-Measure g c =
    let old : Meaning = g.S.Station.meaning c.args.station.now in
    let new : Meaning = g.S.Station.meaning c.measure.new.station in
    subst (λ (x : Option Order). Run (command_for x) c.args.limits.packets old new c.measure.result)
    (ap (λ (f : Form). Some (order f)) (sym c.in-Some-Measure.field-0-is) ∙ c.in-Some-Measure.ensures) c.measure.ensures

pub returns-in-Some-Upgrade : goal.returns-in-Some-Upgrade
returns-in-Some-Upgrade g c =
    let old : Meaning = g.S.Station.meaning c.args.station.now in
    let new : Meaning = g.S.Station.meaning c.upgrade.new.station in
    subst (λ (x : Option Order). Run (command_for x) c.args.limits.packets old new c.upgrade.result)
    (ap (λ (f : Form). Some (order f)) (sym c.in-Some-Upgrade.field-0-is) ∙ c.in-Some-Upgrade.ensures) c.upgrade.ensures

pub returns-in-Some-Equalise : goal.returns-in-Some-Equalise
returns-in-Some-Equalise g c =
    let old : Meaning = g.S.Station.meaning c.args.station.now in
    let new : Meaning = g.S.Station.meaning c.equalise.new.station in
    subst (λ (x : Option Order). Run (command_for x) c.args.limits.packets old new c.equalise.result)
    (ap (λ (f : Form). Some (order f)) (sym c.in-Some-Equalise.field-0-is) ∙ c.in-Some-Equalise.ensures) c.equalise.ensures

pub returns-in-Some-Track : goal.returns-in-Some-Track
returns-in-Some-Track g c =
    let old : Meaning = g.S.Station.meaning c.args.station.now in
    let new : Meaning = g.S.Station.meaning c.track.new.station in
    subst (λ (x : Option Order). Run (command_for x) c.args.limits.packets old new c.track.result)
    (ap (λ (f : Form). Some (order f)) (sym c.in-Some-Track.field-0-is) ∙ c.in-Some-Track.ensures) c.track.ensures

pub returns-in-Some-Trial : goal.returns-in-Some-Trial
returns-in-Some-Trial g c =
    let old : Meaning = g.S.Station.meaning c.args.station.now in
    let new : Meaning = g.S.Station.meaning c.trial.new.station in
    subst (λ (x : Option Order). Run (command_for x) c.args.limits.packets old new c.trial.result)
    (ap (λ (f : Form). Some (order f)) (sym c.in-Some-Trial.field-0-is) ∙ c.in-Some-Trial.ensures) c.trial.ensures

pub returns-in-None : goal.returns-in-None
returns-in-None g c =
    let old : Meaning = g.S.Station.meaning c.args.station.now in
    let new : Meaning = g.S.Station.meaning c.refuse.new.station in
    let limit : ℕ = c.args.limits.packets in
    let ended = unstarted_ended no_command limit old refl (λ u whole. refl) (λ file. tt) c.requires.fresh Usage (refl, λ t. refl) refl in
    subst (λ (x : Option Order). Run (command_for x) limit old new c.refuse.result) c.in-None.ensures
    (subst (λ (n : ℕ). Run no_command limit old new n) (sym c.refuse.ensures.status) (run_refused no_command limit old old new Usage ended c.refuse.ensures.text))
