use Rattle.std.proofs.Common.{refl, subst}
use Rattle.station_core.specs.Meaning.{Meaning}
use Rattle.mode_set.specs.declared.settings.Settings.{Settings}
use Rattle.cmd_trial.specs.Steps.{RunsOrLacks}
use Rattle.cmd_trial.proofs.Laws.{Laws}
use Rattle.cmd_trial.proofs.WholeRun.{ready, run_of, refused}
use Rattle.cmd_trial.proofs.command.trial.Goals as goal

pub returns-in-M2k : goal.returns-in-M2k
returns-in-M2k g c =
    let old : Meaning = g.S.Station.meaning c.args.station.now in
    let mid : Meaning = g.S.Station.meaning c.read_settings.new.station in
    let new : Meaning = g.S.Station.meaning c.trial_in.new.station in
    let laws : Laws = record { frames = c.workers.ensures.frames; given = c.workers.ensures.given; counts = c.workers.ensures.counts } in
    run_of c.args.limits.now.packets c.args.settings.now c.args.number old mid laws c.requires.fresh c.in-Ok.ensures.asks
    c.in-Ok.accepted c.in-Ok.ensures.reads c.trial_in.result new (subst (λ (s : Settings). RunsOrLacks s c.args.number mid new c.trial_in.result) c.from_zero-zero.ensures c.trial_in.ensures)

pub returns-in-M8k : goal.returns-in-M8k
returns-in-M8k g c =
    let old : Meaning = g.S.Station.meaning c.args.station.now in
    let mid : Meaning = g.S.Station.meaning c.read_settings.new.station in
    let new : Meaning = g.S.Station.meaning c.trial_in-in-M8k.new.station in
    let laws : Laws = record { frames = c.workers.ensures.frames; given = c.workers.ensures.given; counts = c.workers.ensures.counts } in
    run_of c.args.limits.now.packets c.args.settings.now c.args.number old mid laws c.requires.fresh c.in-Ok.ensures.asks
    c.in-Ok.accepted c.in-Ok.ensures.reads c.trial_in-in-M8k.result new (subst (λ (s : Settings). RunsOrLacks s c.args.number mid new c.trial_in-in-M8k.result) c.from_zero-zero.ensures c.trial_in-in-M8k.ensures)

pub returns-in-Err : goal.returns-in-Err
returns-in-Err g c =
    let old : Meaning = g.S.Station.meaning c.args.station.now in
    let mid : Meaning = g.S.Station.meaning c.read_settings.new.station in
    let new : Meaning = g.S.Station.meaning c.refuse.new.station in
    let laws : Laws = record { frames = c.workers.ensures.frames; given = c.workers.ensures.given; counts = c.workers.ensures.counts } in
    refused c.args.limits.now.packets c.args.settings.now c.args.number old mid laws c.requires.fresh c.in-Err.ensures.asks
    c.in-Err.refusal c.in-Err.ensures.asks.later c.in-Err.ensures.reads c.refuse.result new c.refuse.ensures.status c.refuse.ensures.text

pub trial_in-requires : goal.trial_in-requires
trial_in-requires g c =
    let old : Meaning = g.S.Station.meaning c.args.station.now in
    let mid : Meaning = g.S.Station.meaning c.read_settings.new.station in
    let laws : Laws = record { frames = c.workers.ensures.frames; given = c.workers.ensures.given; counts = c.workers.ensures.counts } in
    λ k. (
      record { shared = c.type_bounds.sync-R.shared },
      (
        record { shared = c.type_bounds.sync-G.shared },
        ((refl, tt), (c.in-M2k.is, ready c.args.limits.now.packets c.args.settings.now c.args.number old mid laws c.requires.fresh c.in-Ok.ensures.asks c.in-Ok.accepted c.in-Ok.ensures.reads)),
      ),
    )

pub trial_in-requires-in-M8k : goal.trial_in-requires-in-M8k
trial_in-requires-in-M8k g c =
    let old : Meaning = g.S.Station.meaning c.args.station.now in
    let mid : Meaning = g.S.Station.meaning c.read_settings.new.station in
    let laws : Laws = record { frames = c.workers.ensures.frames; given = c.workers.ensures.given; counts = c.workers.ensures.counts } in
    λ k. (
      record { shared = c.type_bounds.sync-R.shared },
      (
        record { shared = c.type_bounds.sync-G.shared },
        ((refl, tt), (c.in-M8k.is, ready c.args.limits.now.packets c.args.settings.now c.args.number old mid laws c.requires.fresh c.in-Ok.ensures.asks c.in-Ok.accepted c.in-Ok.ensures.reads)),
      ),
    )
