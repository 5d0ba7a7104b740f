use Rattle.std.proofs.Common.{sym, refl, subst}
use Rattle.mode_set.specs.declared.modes.Stream.TheVariants.{Hp, Lp}
use Rattle.mode_set.specs.declared.settings.Settings.{Settings}
use Rattle.reception.specs.Costs.{costs}
use Rattle.reception.specs.Streams.{so_far}
use Rattle.measurer.specs.Seen.{MeterState}
use Rattle.measurer.specs.Standing.{GoOn, MetersStand}
use Rattle.measurer.specs.Steps.{HasGone}
use Rattle.measurer.proofs.Finishing.{may_end, meters_ended}
use Rattle.measurer.proofs.meter.FrameMeter.finish.Goals as goal

pub finish-requires-clause-ready : goal.finish-requires-clause-ready
finish-requires-clause-ready g c κs within =
    (may_end (record { ready = c.ready.ensures.ready; counts = c.few.ensures.counts; room = c.room.ensures.last; steps = c.rooms.ensures.steps; none = c.steps.ensures.none; long = c.costs.ensures.long }) c.args.settings.now _ (subst (HasGone c.args.settings.now) (sym c.self.view_is) c.requires.gone) Hp).ready

pub finish-requires-clause-known : goal.finish-requires-clause-known
finish-requires-clause-known g c κs within =
    (may_end (record { ready = c.ready.ensures.ready; counts = c.few.ensures.counts; room = c.room.ensures.last; steps = c.rooms.ensures.steps; none = c.steps.ensures.none; long = c.costs.ensures.long }) c.args.settings.now _ (subst (HasGone c.args.settings.now) (sym c.self.view_is) c.requires.gone) Hp).known

pub finish-requires-clause-words : goal.finish-requires-clause-words
finish-requires-clause-words g c κs within =
    (may_end (record { ready = c.ready.ensures.ready; counts = c.few.ensures.counts; room = c.room.ensures.last; steps = c.rooms.ensures.steps; none = c.steps.ensures.none; long = c.costs.ensures.long }) c.args.settings.now _ (subst (HasGone c.args.settings.now) (sym c.self.view_is) c.requires.gone) Hp).words

pub finish-requires-2-clause-ready : goal.finish-requires-2-clause-ready
finish-requires-2-clause-ready g c κs within =
    (may_end (record { ready = c.ready.ensures.ready; counts = c.few.ensures.counts; room = c.room.ensures.last; steps = c.rooms.ensures.steps; none = c.steps.ensures.none; long = c.costs.ensures.long }) c.args.settings.now _ (subst (HasGone c.args.settings.now) (sym c.self.view_is) c.requires.gone) Lp).ready

pub finish-requires-2-clause-known : goal.finish-requires-2-clause-known
finish-requires-2-clause-known g c κs within =
    (may_end (record { ready = c.ready.ensures.ready; counts = c.few.ensures.counts; room = c.room.ensures.last; steps = c.rooms.ensures.steps; none = c.steps.ensures.none; long = c.costs.ensures.long }) c.args.settings.now _ (subst (HasGone c.args.settings.now) (sym c.self.view_is) c.requires.gone) Lp).known

pub finish-requires-2-clause-words : goal.finish-requires-2-clause-words
finish-requires-2-clause-words g c κs within =
    (may_end (record { ready = c.ready.ensures.ready; counts = c.few.ensures.counts; room = c.room.ensures.last; steps = c.rooms.ensures.steps; none = c.steps.ensures.none; long = c.costs.ensures.long }) c.args.settings.now _ (subst (HasGone c.args.settings.now) (sym c.self.view_is) c.requires.gone) Lp).words

pub returns-clause-finished : goal.returns-clause-finished
returns-clause-finished g c = λ bytes go.
    let s : Settings = c.args.settings.now in
    let x = c.self.inside in
    let old : MeterState = record { comparer = x.comparer; hp = x.hp; lp = x.lp; current = x.current } in
    let new : MeterState = record { comparer = x.comparer; hp = c.finish.new.self; lp = c.finish-2.new.self; current = x.current } in
    let h : MetersStand so_far s bytes old = (subst (GoOn s bytes) (sym c.self.view_is) go).stand in
    meters_ended c.standing.ensures.more s bytes old new h refl refl
    (c.finish.ensures.finished s Hp x.current.number (h.meters Hp).from (costs s bytes Hp) (h.bits Hp) (h.meters Hp).reports (h.meters Hp).stands)
    (c.finish-2.ensures.finished s Lp x.current.number (h.meters Lp).from (costs s bytes Lp) (h.bits Lp) (h.meters Lp).reports (h.meters Lp).stands)
