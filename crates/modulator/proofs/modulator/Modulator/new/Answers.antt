-- Nothing was put, and nothing is pending.
use Rattle.std.proofs.Common.{◌≤◌, sym, ap, arith}
use Rattle.std.specs.Prelude.{vec_capacity}
use Rattle.mode_set.specs.StreamTable.{payload}
use Rattle.modulator.specs.State.{no_packets}
use Rattle.modulator.proofs.Stepping.{parts_of, kept_at_start, has_put_nothing, none_put}
use Rattle.modulator.proofs.modulator.Modulator.new.Goals as goal

pub invariant_of-result : goal.invariant_of-result
invariant_of-result g c =
    let hp = c.in_ok-new.field-0 in
    let lp = c.in_ok-new-2.field-0 in
    let inner = c.in_ok-new-3.field-0 in
    let room : payload c.args.settings.now.mode ≤ vec_capacity c.in_ok-with_capacity.field-0 = omega (arith, c.in_ok-with_capacity.ensures.capacity, c.NMAX.ensures, g.M.Carriers.nmax_of, ap payload c.requires) in
    kept_at_start c.steps.ensures.none g.M.Carriers.MODE c.args.settings.now (parts_of hp.outer lp.outer hp.waiting lp.waiting inner) c.new-4.result (vec_capacity c.in_ok-with_capacity.field-0)
    c.requires c.in_ok-new-3.ensures.settings c.in_ok-new-3.ensures.hp c.in_ok-new-3.ensures.lp c.in_ok-new.ensures.waiting c.in_ok-new-2.ensures.waiting c.new-4.ensures.settings c.new-4.ensures.first room

pub returns-clause-put : goal.returns-clause-put
returns-clause-put g c = λ inputs.
    let hp = c.in_ok-new.field-0 in
    let lp = c.in_ok-new-2.field-0 in
    let inner = c.in_ok-new-3.field-0 in
    has_put_nothing c.steps.ensures.none c.args.settings.now (parts_of hp.outer lp.outer hp.waiting lp.waiting inner) c.in_ok-new-3.ensures.settings c.in_ok-new-3.ensures.hp c.in_ok-new-3.ensures.lp c.in_ok-new.ensures.outer c.in_ok-new-2.ensures.outer
    c.in_ok-new.ensures.waiting c.in_ok-new-2.ensures.waiting inputs

pub returns-clause-stands : goal.returns-clause-stands
returns-clause-stands g c =
    let hp = c.in_ok-new.field-0 in
    let lp = c.in_ok-new-2.field-0 in
    let inner = c.in_ok-new-3.field-0 in
    let none = none_put c.steps.ensures.none c.args.settings.now (parts_of hp.outer lp.outer hp.waiting lp.waiting inner) c.in_ok-new.ensures.waiting c.in_ok-new-2.ensures.waiting in
    record { hp = sym none.0; lp = sym none.1; put = returns-clause-put g c no_packets }

pub returns-clause-hp : goal.returns-clause-hp
returns-clause-hp g c =
    let hp = c.in_ok-new.field-0 in
    let lp = c.in_ok-new-2.field-0 in
    let inner = c.in_ok-new-3.field-0 in
    (none_put c.steps.ensures.none c.args.settings.now (parts_of hp.outer lp.outer hp.waiting lp.waiting inner) c.in_ok-new.ensures.waiting c.in_ok-new-2.ensures.waiting).0

pub returns-clause-lp : goal.returns-clause-lp
returns-clause-lp g c =
    let hp = c.in_ok-new.field-0 in
    let lp = c.in_ok-new-2.field-0 in
    let inner = c.in_ok-new-3.field-0 in
    (none_put c.steps.ensures.none c.args.settings.now (parts_of hp.outer lp.outer hp.waiting lp.waiting inner) c.in_ok-new.ensures.waiting c.in_ok-new-2.ensures.waiting).1
