-- The packet goes to the wanted stream.
use Rattle.std.proofs.Common.{◌≡◌, ◌<◌, ◌≤◌, length, refl, sym, subst}
use Rattle.std.specs.Prelude.{None, vec_capacity}
use Rattle.mode_set.specs.StreamTable.{need}
use Rattle.mode_set.specs.declared.modes.Stream.TheVariants.{Hp, Lp}
use Rattle.mode_set.specs.declared.settings.Settings.{Settings}
use Rattle.modulator.specs.State.{HasOneMore, Transmitter, transmitter, HasPut, IsNext, StandsFor, wanted, with_packet}
use Rattle.modulator.proofs.Stepping.{parts_of, put_hp, put_lp, stands_more, want_none}
use Rattle.modulator.proofs.modulator.Modulator.put.Goals as goal

pub returns-in-Hp-clause-put : goal.returns-in-Hp-clause-put
returns-in-Hp-clause-put g c = λ inputs h is.
    let i = c.self.inside in
    let was = put_hp c.steps.ensures.next g.M.Carriers.MODE i.settings i.made (parts_of i.hp.outer i.lp.outer i.hp.waiting i.lp.waiting i.inner) i.out (vec_capacity i.labels) c.put.new.self.outer c.put.new.self.waiting c.args.packet.now c.self.invariant
    (subst (λ (y : Settings). length i.hp.waiting < need y Hp) c.settings_of_next-settings.ensures (c.in-Hp.ensures.hp refl)) c.put.ensures.amount c.put.ensures.holds in
    was.put inputs (subst (λ (t : Transmitter). HasPut t inputs) (sym c.self.view_is) h) (subst (λ (t : Transmitter). IsNext t inputs c.args.packet.now) (sym c.self.view_is) is)

pub returns-in-Hp-clause-stands : goal.returns-in-Hp-clause-stands
returns-in-Hp-clause-stands g c = λ packets st.
    let i = c.self.inside in
    let new : Transmitter = transmitter i.settings i.made (parts_of c.put.new.self.outer i.lp.outer c.put.new.self.waiting i.lp.waiting i.inner) in
    let was = put_hp c.steps.ensures.next g.M.Carriers.MODE i.settings i.made (parts_of i.hp.outer i.lp.outer i.hp.waiting i.lp.waiting i.inner) i.out (vec_capacity i.labels) c.put.new.self.outer c.put.new.self.waiting c.args.packet.now c.self.invariant
    (subst (λ (y : Settings). length i.hp.waiting < need y Hp) c.settings_of_next-settings.ensures (c.in-Hp.ensures.hp refl)) c.put.ensures.amount c.put.ensures.holds in
    subst (λ (t : Transmitter). StandsFor new (with_packet packets (wanted t) c.args.packet.now)) c.self.view_is
    (stands_more c.other_streams.ensures _ new c.args.packet.now was packets (subst (λ (t : Transmitter). StandsFor t packets) (sym c.self.view_is) st))

pub returns-in-Lp-clause-counts : goal.returns-in-Lp-clause-counts
returns-in-Lp-clause-counts g c =
    let i = c.self.inside in
    let both = subst (λ (y : Settings). (need y Hp ≤ length i.hp.waiting) × (length i.lp.waiting < need y Lp)) c.settings_of_next-settings.ensures (c.in-Lp.ensures.lp refl) in
    let new : Transmitter = transmitter i.settings i.made (parts_of i.hp.outer c.put-in-Lp.new.self.outer i.hp.waiting c.put-in-Lp.new.self.waiting i.inner) in
    let was = put_lp c.steps.ensures.next g.M.Carriers.MODE i.settings i.made (parts_of i.hp.outer i.lp.outer i.hp.waiting i.lp.waiting i.inner) i.out (vec_capacity i.labels) c.put-in-Lp.new.self.outer c.put-in-Lp.new.self.waiting c.args.packet.now c.self.invariant
    both.0 both.1 c.put-in-Lp.ensures.amount c.put-in-Lp.ensures.holds in
    subst (λ (t : Transmitter). HasOneMore (wanted t) t new) c.self.view_is was.counts

pub returns-in-Lp-clause-put : goal.returns-in-Lp-clause-put
returns-in-Lp-clause-put g c = λ inputs h is.
    let i = c.self.inside in
    let both = subst (λ (y : Settings). (need y Hp ≤ length i.hp.waiting) × (length i.lp.waiting < need y Lp)) c.settings_of_next-settings.ensures (c.in-Lp.ensures.lp refl) in
    let was = put_lp c.steps.ensures.next g.M.Carriers.MODE i.settings i.made (parts_of i.hp.outer i.lp.outer i.hp.waiting i.lp.waiting i.inner) i.out (vec_capacity i.labels) c.put-in-Lp.new.self.outer c.put-in-Lp.new.self.waiting c.args.packet.now c.self.invariant
    both.0 both.1 c.put-in-Lp.ensures.amount c.put-in-Lp.ensures.holds in
    was.put inputs (subst (λ (t : Transmitter). HasPut t inputs) (sym c.self.view_is) h) (subst (λ (t : Transmitter). IsNext t inputs c.args.packet.now) (sym c.self.view_is) is)

pub returns-in-Lp-clause-stands : goal.returns-in-Lp-clause-stands
returns-in-Lp-clause-stands g c = λ packets st.
    let i = c.self.inside in
    let both = subst (λ (y : Settings). (need y Hp ≤ length i.hp.waiting) × (length i.lp.waiting < need y Lp)) c.settings_of_next-settings.ensures (c.in-Lp.ensures.lp refl) in
    let new : Transmitter = transmitter i.settings i.made (parts_of i.hp.outer c.put-in-Lp.new.self.outer i.hp.waiting c.put-in-Lp.new.self.waiting i.inner) in
    let was = put_lp c.steps.ensures.next g.M.Carriers.MODE i.settings i.made (parts_of i.hp.outer i.lp.outer i.hp.waiting i.lp.waiting i.inner) i.out (vec_capacity i.labels) c.put-in-Lp.new.self.outer c.put-in-Lp.new.self.waiting c.args.packet.now c.self.invariant
    both.0 both.1 c.put-in-Lp.ensures.amount c.put-in-Lp.ensures.holds in
    subst (λ (t : Transmitter). StandsFor new (with_packet packets (wanted t) c.args.packet.now)) c.self.view_is
    (stands_more c.other_streams.ensures _ new c.args.packet.now was packets (subst (λ (t : Transmitter). StandsFor t packets) (sym c.self.view_is) st))

-- if a symbol is wanted, no packet is
pub returns-in-Symbol-clause-stands : goal.returns-in-Symbol-clause-stands
returns-in-Symbol-clause-stands g c =
    let i = c.self.inside in
    let both = subst (λ (y : Settings). (need y Hp ≤ length i.hp.waiting) × (need y Lp ≤ length i.lp.waiting)) c.settings_of_next-settings.ensures (c.in-Symbol.ensures.symbol refl) in
    let none = want_none c.steps.ensures.next g.M.Carriers.MODE i.settings i.made (parts_of i.hp.outer i.lp.outer i.hp.waiting i.lp.waiting i.inner) i.out (vec_capacity i.labels) c.self.invariant both.0 both.1 in
    absurd (c.requires.wanted (subst (λ (t : Transmitter). wanted t ≡ None) c.self.view_is none))

pub returns-in-Symbol-clause-counts : goal.returns-in-Symbol-clause-counts
returns-in-Symbol-clause-counts g c =
    let i = c.self.inside in
    let both = subst (λ (y : Settings). (need y Hp ≤ length i.hp.waiting) × (need y Lp ≤ length i.lp.waiting)) c.settings_of_next-settings.ensures (c.in-Symbol.ensures.symbol refl) in
    let none = want_none c.steps.ensures.next g.M.Carriers.MODE i.settings i.made (parts_of i.hp.outer i.lp.outer i.hp.waiting i.lp.waiting i.inner) i.out (vec_capacity i.labels) c.self.invariant both.0 both.1 in
    absurd (c.requires.wanted (subst (λ (t : Transmitter). wanted t ≡ None) c.self.view_is none))
