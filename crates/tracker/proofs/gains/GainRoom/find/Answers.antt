-- The gains stand in the room for all carriers, found by those at the points.
use Rattle.std.proofs.Common.{◌^◌, List, length, ap, sym, ◌∙◌, subst}
use Rattle.std.proofs.lemmas.List.{with_items_is}
use Rattle.mode_set.specs.declared.modes.Mode.{Mode}
use Rattle.tracking.specs.Comb.{comb_of}
use Rattle.tracking.specs.InTime.{point_gain}
use Rattle.track_arithmetic.specs.declared.complex.Complex.{Complex}
use Rattle.track_cells.specs.Gains.{gain_of, AreWithin}
use Rattle.tracker.proofs.Within.{same_carrier}
use Rattle.tracker.proofs.gains.GainRoom.find.Goals as goal

pub carrier_gains-requires-clause-gains : goal.carrier_gains-requires-clause-gains
carrier_gains-requires-clause-gains g c =
    let e = c.point_gains.ensures in
    let first = with_items_is c.self.inside.points c.point_gains.new.gains (e.long ∙ sym (ap length c.deref_mut.ensures.value ∙ c.self.invariant.gains) ∙ c.deref_mut.ensures.len) in
    ap length (c.deref.ensures.value ∙ first) ∙ e.long

pub carrier_gains-requires-clause-within : goal.carrier_gains-requires-clause-within
carrier_gains-requires-clause-within g c =
    let e = c.point_gains.ensures in
    let first = with_items_is c.self.inside.points c.point_gains.new.gains (e.long ∙ sym (ap length c.deref_mut.ensures.value ∙ c.self.invariant.gains) ∙ c.deref_mut.ensures.len) in
    subst (λ (z : List Complex). AreWithin (2 ^ 21) z) (sym (c.deref.ensures.value ∙ first)) e.within

pub invariant_of-self : goal.invariant_of-self
invariant_of-self g c =
    let s = c.self.inside in
    let i = c.self.invariant in
    let n = c.carrier_gains.new in
    let e = c.carrier_gains.ensures in
    let p = c.point_gains.ensures in
    let first = with_items_is s.points c.point_gains.new.gains (p.long ∙ sym (ap length c.deref_mut.ensures.value ∙ i.gains) ∙ c.deref_mut.ensures.len) in
    let second = with_items_is s.centred n.centred (e.centred ∙ sym (ap length c.deref_mut-2.ensures.value ∙ i.centred) ∙ c.deref_mut-2.ensures.len) in
    let third = with_items_is s.all n.to (e.carriers ∙ sym (ap length c.deref_mut-3.ensures.value ∙ i.all) ∙ c.deref_mut-3.ensures.len) in
    record { gains = ap length first ∙ p.long; centred = ap length second ∙ e.centred; all = ap length third ∙ e.carriers }

pub returns-clause-is : goal.returns-clause-is
returns-clause-is g c = λ symbols k h a em lt.
    let s = c.self.inside in
    let n = c.carrier_gains.new in
    let e = c.carrier_gains.ensures in
    let p = c.point_gains.ensures in
    let m : Mode = g.M.Carriers.MODE in
    let first = with_items_is s.points c.point_gains.new.gains (p.long ∙ sym (ap length c.deref_mut.ensures.value ∙ c.self.invariant.gains) ∙ c.deref_mut.ensures.len) in
    let third = with_items_is s.all n.to (e.carriers ∙ sym (ap length c.deref_mut-3.ensures.value ∙ c.self.invariant.all) ∙ c.deref_mut-3.ensures.len) in
    let read = c.deref.ensures.value ∙ first in
    ap (λ (z : List Complex). gain_of z k) third ∙ e.is k lt
    ∙ same_carrier c.args.guard m (gain_of c.deref.result.now) (point_gain c.args.guard (comb_of m symbols) c.args.m) k
    (λ j within. ap (λ (z : List Complex). gain_of z j) read ∙ p.is symbols c.args.guard j h a em within)

pub returns-clause-within : goal.returns-clause-within
returns-clause-within g c =
    let s = c.self.inside in
    let n = c.carrier_gains.new in
    let e = c.carrier_gains.ensures in
    let third = with_items_is s.all n.to (e.carriers ∙ sym (ap length c.deref_mut-3.ensures.value ∙ c.self.invariant.all) ∙ c.deref_mut-3.ensures.len) in
    subst (λ (z : List Complex). AreWithin (2 ^ 25) z) (sym third) e.within
