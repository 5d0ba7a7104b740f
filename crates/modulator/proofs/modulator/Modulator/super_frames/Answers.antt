-- The greater of the streams' numbers.
use Rattle.std.proofs.Common.{sym, subst}
use Rattle.std.specs.Prelude.{Some}
use Rattle.transmission.specs.Transmission.{by_stream}
use Rattle.transmission.specs.SuperFrames.{IsLength}
use Rattle.modulator.proofs.Lengths.{AreKnown, never_hp, never_lp, one_stream, two_streams}
use Rattle.modulator.proofs.modulator.Modulator.super_frames.Goals as goal

pub returns-in_err-hp-clause-length : goal.returns-in_err-hp-clause-length
returns-in_err-hp-clause-length g c =
    let known : AreKnown = record { none = c.words.ensures.none; grow = c.words.ensures.grow; hp = c.settings.ensures.hp; lp = c.settings.ensures.lp } in
    subst (IsLength c.args.settings.now (by_stream c.args.n_hp c.args.n_lp)) (sym c.from_residual.ensures)
    (never_hp known c.args.settings.now (by_stream c.args.n_hp c.args.n_lp) c.in_err-hp.ensures)

pub returns-in_err-hp-clause-is : goal.returns-in_err-hp-clause-is
returns-in_err-hp-clause-is g c = sym (c.super_frames.ensures.one c.args.settings.now (by_stream c.args.n_hp c.args.n_lp) c.from_residual.result (returns-in_err-hp-clause-length g c))

pub returns-then-not-has_lp-clause-length : goal.returns-then-not-has_lp-clause-length
returns-then-not-has_lp-clause-length g c =
    let known : AreKnown = record { none = c.words.ensures.none; grow = c.words.ensures.grow; hp = c.settings.ensures.hp; lp = c.settings.ensures.lp } in
    one_stream known c.args.settings.now (by_stream c.args.n_hp c.args.n_lp) c.in_ok-hp.hp (sym c.if-not-has_lp.ensures) c.in_ok-hp.ensures

pub returns-then-not-has_lp-clause-is : goal.returns-then-not-has_lp-clause-is
returns-then-not-has_lp-clause-is g c = sym (c.super_frames.ensures.one c.args.settings.now (by_stream c.args.n_hp c.args.n_lp) (Some c.in_ok-hp.hp) (returns-then-not-has_lp-clause-length g c))

pub returns-in_err-lp-clause-length : goal.returns-in_err-lp-clause-length
returns-in_err-lp-clause-length g c =
    let known : AreKnown = record { none = c.words.ensures.none; grow = c.words.ensures.grow; hp = c.settings.ensures.hp; lp = c.settings.ensures.lp } in
    subst (IsLength c.args.settings.now (by_stream c.args.n_hp c.args.n_lp)) (sym c.from_residual-in_err-lp.ensures)
    (never_lp known c.args.settings.now (by_stream c.args.n_hp c.args.n_lp) (sym c.if-not-has_lp.ensures) c.in_err-lp.ensures)

pub returns-in_err-lp-clause-is : goal.returns-in_err-lp-clause-is
returns-in_err-lp-clause-is g c = sym (c.super_frames.ensures.one c.args.settings.now (by_stream c.args.n_hp c.args.n_lp) c.from_residual-in_err-lp.result (returns-in_err-lp-clause-length g c))

pub returns-clause-length : goal.returns-clause-length
returns-clause-length g c =
    let known : AreKnown = record { none = c.words.ensures.none; grow = c.words.ensures.grow; hp = c.settings.ensures.hp; lp = c.settings.ensures.lp } in
    two_streams known c.args.settings.now (by_stream c.args.n_hp c.args.n_lp) c.in_ok-hp.hp c.in_ok-lp.lp c.max.result (sym c.if-not-has_lp.ensures) c.max.ensures c.in_ok-hp.ensures c.in_ok-lp.ensures

pub returns-clause-is : goal.returns-clause-is
returns-clause-is g c = sym (c.super_frames.ensures.one c.args.settings.now (by_stream c.args.n_hp c.args.n_lp) (Some c.max.result) (returns-clause-length g c))
