-- The next symbol is made from the first pending bits.
use Rattle.std.proofs.Common.{◌≡◌, ◌+◌, ◌/◌, ◌^◌, ◌<◌, ◌≤◌, ◌++◌, List, ℕ, length, refl, sym, ap, ◌∙◌, subst, arith}
use Rattle.std.specs.Prelude.{vec_capacity, None}
use Rattle.mode_set.specs.Entries.{with_entry}
use Rattle.mode_set.specs.StreamTable.{need}
use Rattle.mode_set.specs.declared.modes.Stream.TheVariants.{Hp, Lp}
use Rattle.mode_set.specs.declared.entry.Entry.{Entry}
use Rattle.mode_set.specs.declared.settings.Settings.{Settings}
use Rattle.symbol_parameters.specs.Spans.{settings_in, settings_at}
use Rattle.frame_build.specs.Announcing.{announcing_bytes}
use Rattle.frame_build.specs.Symbol.{bits_of}
use Rattle.transmission.specs.Transmission.{announced_at, tx_symbol}
use Rattle.modulator.specs.State.{Transmitter, HasPut, StandsFor, wanted}
use Rattle.modulator.proofs.Stepping.{bits_wait, kept_made, parts_of, symbol_made, bytes_made, stands_kept}
use Rattle.modulator.proofs.modulator.Modulator.symbol.Goals as goal

-- the settings of the symbol, from those kept by a part
present : (s z : Settings) (made : ℕ) (now : Entry) → z ≡ s → with_entry s now ≡ settings_at s made → with_entry z now ≡ settings_at s made
present s z made now same is = ap (λ (y : Settings). with_entry y now) same ∙ is

-- those of the next super-frame
coming : (s z : Settings) (made later : ℕ) (next : Entry) → z ≡ s → later ≡ made + 272 → with_entry s next ≡ settings_at s later → with_entry z next ≡ announced_at s made
coming s z made later next same after is =
    let frame : later / 272 ≡ made / 272 + 1 = omega (arith, after) in
    ap (λ (y : Settings). with_entry y next) same ∙ is ∙ ap (settings_in s) frame

pub next_labels-requires-clause-hp : goal.next_labels-requires-clause-hp
next_labels-requires-clause-hp g c =
    let i = c.self.inside in
    let none = subst (λ (t : Transmitter). wanted t ≡ None) (sym c.self.view_is) c.requires.wanted in
    subst (λ (y : Settings). need y Hp ≤ length i.hp.waiting) (sym (present i.settings i.inner.settings i.made c.parameters_of_symbol-now.result c.self.invariant.inner c.parameters_of_symbol-now.ensures.settings))
    (bits_wait c.steps.ensures.next g.M.Carriers.MODE i.settings i.made (parts_of i.hp.outer i.lp.outer i.hp.waiting i.lp.waiting i.inner) i.out (vec_capacity i.labels) c.self.invariant none).0

pub next_labels-requires-clause-lp : goal.next_labels-requires-clause-lp
next_labels-requires-clause-lp g c =
    let i = c.self.inside in
    let none = subst (λ (t : Transmitter). wanted t ≡ None) (sym c.self.view_is) c.requires.wanted in
    subst (λ (y : Settings). need y Lp ≤ length i.lp.waiting) (sym (present i.settings i.inner.settings i.made c.parameters_of_symbol-now.result c.self.invariant.inner c.parameters_of_symbol-now.ensures.settings))
    (bits_wait c.steps.ensures.next g.M.Carriers.MODE i.settings i.made (parts_of i.hp.outer i.lp.outer i.hp.waiting i.lp.waiting i.inner) i.out (vec_capacity i.labels) c.self.invariant none).1

pub invariant_of-self : goal.invariant_of-self
invariant_of-self g c =
    let i = c.self.inside in
    let none = subst (λ (t : Transmitter). wanted t ≡ None) (sym c.self.view_is) c.requires.wanted in
    let few : i.made < 2 ^ 32 = subst (λ (t : Transmitter). t.made < 2 ^ 32) (sym c.self.view_is) c.requires.few in
    kept_made c.steps.ensures.next g.M.Carriers.MODE i.settings (with_entry i.inner.settings c.parameters_of_symbol-now.result) i.made (parts_of i.hp.outer i.lp.outer i.hp.waiting i.lp.waiting i.inner) i.out c.write.new.self
    (vec_capacity i.labels) (vec_capacity c.next_labels.new.labels) c.next_labels.new.inner c.next_labels.new.hp c.next_labels.new.lp (present i.settings i.inner.settings i.made c.parameters_of_symbol-now.result c.self.invariant.inner c.parameters_of_symbol-now.ensures.settings)
    c.self.invariant none few c.next_labels.ensures.settings c.next_labels.ensures.hp_register c.next_labels.ensures.lp_register c.write.ensures.settings c.write.ensures.number c.next_labels.ensures.capacity c.next_labels.ensures.hp c.next_labels.ensures.lp

pub returns-clause-hp : goal.returns-clause-hp
returns-clause-hp g c =
    let i = c.self.inside in
    let none = subst (λ (t : Transmitter). wanted t ≡ None) (sym c.self.view_is) c.requires.wanted in
    let after = symbol_made c.steps.ensures.next g.M.Carriers.MODE i.settings (with_entry i.inner.settings c.parameters_of_symbol-now.result) i.made (parts_of i.hp.outer i.lp.outer i.hp.waiting i.lp.waiting i.inner) i.out (vec_capacity i.labels)
    c.next_labels.new.inner c.next_labels.new.hp c.next_labels.new.lp (present i.settings i.inner.settings i.made c.parameters_of_symbol-now.result c.self.invariant.inner c.parameters_of_symbol-now.ensures.settings) c.self.invariant none
    c.next_labels.ensures.settings c.next_labels.ensures.hp c.next_labels.ensures.lp c.next_labels.ensures.next in
    after.hp ∙ ap (λ (t : Transmitter). t.hp) c.self.view_is

pub returns-clause-lp : goal.returns-clause-lp
returns-clause-lp g c =
    let i = c.self.inside in
    let none = subst (λ (t : Transmitter). wanted t ≡ None) (sym c.self.view_is) c.requires.wanted in
    let after = symbol_made c.steps.ensures.next g.M.Carriers.MODE i.settings (with_entry i.inner.settings c.parameters_of_symbol-now.result) i.made (parts_of i.hp.outer i.lp.outer i.hp.waiting i.lp.waiting i.inner) i.out (vec_capacity i.labels)
    c.next_labels.new.inner c.next_labels.new.hp c.next_labels.new.lp (present i.settings i.inner.settings i.made c.parameters_of_symbol-now.result c.self.invariant.inner c.parameters_of_symbol-now.ensures.settings) c.self.invariant none
    c.next_labels.ensures.settings c.next_labels.ensures.hp c.next_labels.ensures.lp c.next_labels.ensures.next in
    after.lp ∙ ap (λ (t : Transmitter). t.lp) c.self.view_is

pub returns-clause-put : goal.returns-clause-put
returns-clause-put g c = λ inputs h.
    let i = c.self.inside in
    let none = subst (λ (t : Transmitter). wanted t ≡ None) (sym c.self.view_is) c.requires.wanted in
    let after = symbol_made c.steps.ensures.next g.M.Carriers.MODE i.settings (with_entry i.inner.settings c.parameters_of_symbol-now.result) i.made (parts_of i.hp.outer i.lp.outer i.hp.waiting i.lp.waiting i.inner) i.out (vec_capacity i.labels)
    c.next_labels.new.inner c.next_labels.new.hp c.next_labels.new.lp (present i.settings i.inner.settings i.made c.parameters_of_symbol-now.result c.self.invariant.inner c.parameters_of_symbol-now.ensures.settings) c.self.invariant none
    c.next_labels.ensures.settings c.next_labels.ensures.hp c.next_labels.ensures.lp c.next_labels.ensures.next in
    after.put inputs (subst (λ (t : Transmitter). HasPut t inputs) (sym c.self.view_is) h)

pub returns-clause-stands : goal.returns-clause-stands
returns-clause-stands g c = λ packets st.
    let i = c.self.inside in
    let none = subst (λ (t : Transmitter). wanted t ≡ None) (sym c.self.view_is) c.requires.wanted in
    let after = symbol_made c.steps.ensures.next g.M.Carriers.MODE i.settings (with_entry i.inner.settings c.parameters_of_symbol-now.result) i.made (parts_of i.hp.outer i.lp.outer i.hp.waiting i.lp.waiting i.inner) i.out (vec_capacity i.labels)
    c.next_labels.new.inner c.next_labels.new.hp c.next_labels.new.lp (present i.settings i.inner.settings i.made c.parameters_of_symbol-now.result c.self.invariant.inner c.parameters_of_symbol-now.ensures.settings) c.self.invariant none
    c.next_labels.ensures.settings c.next_labels.ensures.hp c.next_labels.ensures.lp c.next_labels.ensures.next in
    stands_kept _ _ packets after.hp after.lp (after.put packets) (subst (λ (t : Transmitter). StandsFor t packets) (sym c.self.view_is) st)

pub returns-clause-bytes : goal.returns-clause-bytes
returns-clause-bytes g c = λ inputs h.
    let i = c.self.inside in
    let none = subst (λ (t : Transmitter). wanted t ≡ None) (sym c.self.view_is) c.requires.wanted in
    let now = with_entry i.out.settings c.parameters_of_symbol-now.result in
    let next = with_entry i.out.settings c.parameters_of_symbol-next.result in
    let made = bytes_made c.settings.ensures.mode c.steps.ensures.next g.M.Carriers.MODE i.settings (with_entry i.inner.settings c.parameters_of_symbol-now.result) now next i.made
    (parts_of i.hp.outer i.lp.outer i.hp.waiting i.lp.waiting i.inner) i.out (vec_capacity i.labels) (bits_of c.next_labels.new.labels.items) inputs
    (present i.settings i.inner.settings i.made c.parameters_of_symbol-now.result c.self.invariant.inner c.parameters_of_symbol-now.ensures.settings) (present i.settings i.out.settings i.made c.parameters_of_symbol-now.result c.self.invariant.out c.parameters_of_symbol-now.ensures.settings)
    (coming i.settings i.out.settings i.made (i.made + 272) c.parameters_of_symbol-next.result c.self.invariant.out refl c.parameters_of_symbol-next.ensures.settings)
    c.self.invariant none (record { repeats = c.symbols_repeat.ensures; follow = c.symbols_follow_labels.ensures }) c.next_labels.ensures.labels (subst (λ (t : Transmitter). HasPut t inputs) (sym c.self.view_is) h) in
    c.write.ensures.bytes
    ∙ ap (λ (z : List ℕ). c.args.to.now.items ++ announcing_bytes now next i.out.number (bits_of z)) c.deref.ensures.value
    ∙ ap (λ (z : List ℕ). c.args.to.now.items ++ z) made
    ∙ ap (λ (t : Transmitter). c.args.to.now.items ++ tx_symbol t.settings inputs t.made) c.self.view_is
