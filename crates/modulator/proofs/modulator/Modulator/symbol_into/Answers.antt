-- The next symbol is made from the first pending bits.
use Rattle.std.proofs.Common.{◌≡◌, ◌+◌, ◌/◌, ◌%◌, ◌^◌, ◌<◌, ◌≤◌, Bool, List, ℕ, length, refl, sym, ap, ◌∙◌, subst, arith}
use Rattle.std.specs.Prelude.{vec_capacity, None, ◌==◌}
use Rattle.mode_set.specs.Entries.{with_entry}
use Rattle.mode_set.specs.StreamTable.{need}
use Rattle.mode_set.specs.declared.modes.Stream.TheVariants.{Hp, Lp}
use Rattle.mode_set.specs.declared.entry.Entry.{Entry}
use Rattle.mode_set.specs.declared.modes.Mode.{Mode}
use Rattle.mode_set.specs.declared.settings.Settings.{Settings}
use Rattle.symbol_parameters.specs.Spans.{settings_in, settings_at}
use Rattle.frame_build.specs.Announcing.{announcing_bytes}
use Rattle.symbol_interleave.specs.Carried.{is_odd}
use Rattle.frame_build.specs.Words.{carried_bits}
use Rattle.transmission.specs.Transmission.{announced_at, tx_symbol}
use Rattle.modulator.specs.State.{Transmitter, HasPut, StandsFor, wanted}
use Rattle.modulator.proofs.Stepping.{bits_wait, kept_made, parts_of, symbol_made, bytes_made, stands_kept}
use Rattle.modulator.proofs.modulator.Modulator.symbol_into.Goals as goal

-- the settings of the symbol, from those kept by a part
present : (s z : Settings) (made : ℕ) (now : Entry) → z ≡ s → with_entry s now ≡ settings_at s made → with_entry z now ≡ settings_at s made
present s z made now same is = ap (λ (y : Settings). with_entry y now) same ∙ is

-- those of the next super-frame
coming : (s z : Settings) (made later : ℕ) (next : Entry) → z ≡ s → later ≡ made + 272 → with_entry s next ≡ settings_at s later → with_entry z next ≡ announced_at s made
coming s z made later next same after is =
    let frame : later / 272 ≡ made / 272 + 1 = omega (arith, after) in
    ap (λ (y : Settings). with_entry y next) same ∙ is ∙ ap (settings_in s) frame

-- symbols of a super-frame are numbered from an even symbol on
same_parity : (number made : ℕ) → number ≡ made % 272 → is_odd number ≡ is_odd made
same_parity number made e = ap (λ (z : ℕ). z == 1) (let r : number % 2 ≡ made % 2 = omega (arith, e) in r)

pub next_words-requires-clause-hp : goal.next_words-requires-clause-hp
next_words-requires-clause-hp g c =
    let i = c.self.inside in
    let none = subst (λ (t : Transmitter). wanted t ≡ None) (sym c.self.view_is) c.requires.wanted in
    subst (λ (y : Settings). need y Hp ≤ length i.hp.waiting) (sym (present i.settings i.inner.settings i.made c.parameters_of_symbol-now.result c.self.invariant.inner c.parameters_of_symbol-now.ensures.settings))
    (bits_wait c.steps.ensures.next g.M.Carriers.MODE i.settings i.made (parts_of i.hp.outer i.lp.outer i.hp.waiting i.lp.waiting i.inner) i.out (vec_capacity i.labels) c.self.invariant none).0

pub next_words-requires-clause-lp : goal.next_words-requires-clause-lp
next_words-requires-clause-lp g c =
    let i = c.self.inside in
    let none = subst (λ (t : Transmitter). wanted t ≡ None) (sym c.self.view_is) c.requires.wanted in
    subst (λ (y : Settings). need y Lp ≤ length i.lp.waiting) (sym (present i.settings i.inner.settings i.made c.parameters_of_symbol-now.result c.self.invariant.inner c.parameters_of_symbol-now.ensures.settings))
    (bits_wait c.steps.ensures.next g.M.Carriers.MODE i.settings i.made (parts_of i.hp.outer i.lp.outer i.hp.waiting i.lp.waiting i.inner) i.out (vec_capacity i.labels) c.self.invariant none).1

pub invariant_of-self : goal.invariant_of-self
invariant_of-self g c =
    let i = c.self.inside in
    let none = subst (λ (t : Transmitter). wanted t ≡ None) (sym c.self.view_is) c.requires.wanted in
    let few : i.made < 2 ^ 32 = subst (λ (t : Transmitter). t.made < 2 ^ 32) (sym c.self.view_is) c.requires.few in
    kept_made c.steps.ensures.next g.M.Carriers.MODE i.settings (with_entry i.inner.settings c.parameters_of_symbol-now.result) i.made (parts_of i.hp.outer i.lp.outer i.hp.waiting i.lp.waiting i.inner) i.out c.write_words.new.self
    (vec_capacity i.labels) (vec_capacity i.labels) c.next_words.new.inner c.next_words.new.hp c.next_words.new.lp (present i.settings i.inner.settings i.made c.parameters_of_symbol-now.result c.self.invariant.inner c.parameters_of_symbol-now.ensures.settings)
    c.self.invariant none few c.next_words.ensures.settings c.next_words.ensures.hp_register c.next_words.ensures.lp_register c.write_words.ensures.settings c.write_words.ensures.number refl c.next_words.ensures.hp c.next_words.ensures.lp

pub returns-clause-hp : goal.returns-clause-hp
returns-clause-hp g c =
    let i = c.self.inside in
    let none = subst (λ (t : Transmitter). wanted t ≡ None) (sym c.self.view_is) c.requires.wanted in
    let after = symbol_made c.steps.ensures.next g.M.Carriers.MODE i.settings (with_entry i.inner.settings c.parameters_of_symbol-now.result) i.made (parts_of i.hp.outer i.lp.outer i.hp.waiting i.lp.waiting i.inner) i.out (vec_capacity i.labels)
    c.next_words.new.inner c.next_words.new.hp c.next_words.new.lp (present i.settings i.inner.settings i.made c.parameters_of_symbol-now.result c.self.invariant.inner c.parameters_of_symbol-now.ensures.settings) c.self.invariant none
    c.next_words.ensures.settings c.next_words.ensures.hp c.next_words.ensures.lp (λ paths at hp lp. c.next_words.ensures.next paths (at, hp, lp)) in
    after.hp ∙ ap (λ (t : Transmitter). t.hp) c.self.view_is

pub returns-clause-lp : goal.returns-clause-lp
returns-clause-lp g c =
    let i = c.self.inside in
    let none = subst (λ (t : Transmitter). wanted t ≡ None) (sym c.self.view_is) c.requires.wanted in
    let after = symbol_made c.steps.ensures.next g.M.Carriers.MODE i.settings (with_entry i.inner.settings c.parameters_of_symbol-now.result) i.made (parts_of i.hp.outer i.lp.outer i.hp.waiting i.lp.waiting i.inner) i.out (vec_capacity i.labels)
    c.next_words.new.inner c.next_words.new.hp c.next_words.new.lp (present i.settings i.inner.settings i.made c.parameters_of_symbol-now.result c.self.invariant.inner c.parameters_of_symbol-now.ensures.settings) c.self.invariant none
    c.next_words.ensures.settings c.next_words.ensures.hp c.next_words.ensures.lp (λ paths at hp lp. c.next_words.ensures.next paths (at, hp, lp)) in
    after.lp ∙ ap (λ (t : Transmitter). t.lp) c.self.view_is

pub returns-clause-put : goal.returns-clause-put
returns-clause-put g c = λ inputs h.
    let i = c.self.inside in
    let none = subst (λ (t : Transmitter). wanted t ≡ None) (sym c.self.view_is) c.requires.wanted in
    let after = symbol_made c.steps.ensures.next g.M.Carriers.MODE i.settings (with_entry i.inner.settings c.parameters_of_symbol-now.result) i.made (parts_of i.hp.outer i.lp.outer i.hp.waiting i.lp.waiting i.inner) i.out (vec_capacity i.labels)
    c.next_words.new.inner c.next_words.new.hp c.next_words.new.lp (present i.settings i.inner.settings i.made c.parameters_of_symbol-now.result c.self.invariant.inner c.parameters_of_symbol-now.ensures.settings) c.self.invariant none
    c.next_words.ensures.settings c.next_words.ensures.hp c.next_words.ensures.lp (λ paths at hp lp. c.next_words.ensures.next paths (at, hp, lp)) in
    after.put inputs (subst (λ (t : Transmitter). HasPut t inputs) (sym c.self.view_is) h)

pub returns-clause-stands : goal.returns-clause-stands
returns-clause-stands g c = λ packets st.
    let i = c.self.inside in
    let none = subst (λ (t : Transmitter). wanted t ≡ None) (sym c.self.view_is) c.requires.wanted in
    let after = symbol_made c.steps.ensures.next g.M.Carriers.MODE i.settings (with_entry i.inner.settings c.parameters_of_symbol-now.result) i.made (parts_of i.hp.outer i.lp.outer i.hp.waiting i.lp.waiting i.inner) i.out (vec_capacity i.labels)
    c.next_words.new.inner c.next_words.new.hp c.next_words.new.lp (present i.settings i.inner.settings i.made c.parameters_of_symbol-now.result c.self.invariant.inner c.parameters_of_symbol-now.ensures.settings) c.self.invariant none
    c.next_words.ensures.settings c.next_words.ensures.hp c.next_words.ensures.lp (λ paths at hp lp. c.next_words.ensures.next paths (at, hp, lp)) in
    stands_kept _ _ packets after.hp after.lp (after.put packets) (subst (λ (t : Transmitter). StandsFor t packets) (sym c.self.view_is) st)

pub returns-clause-bytes : goal.returns-clause-bytes
returns-clause-bytes g c = λ inputs h.
    let i = c.self.inside in
    let m : Mode = g.M.Carriers.MODE in
    let none = subst (λ (t : Transmitter). wanted t ≡ None) (sym c.self.view_is) c.requires.wanted in
    let now = with_entry i.out.settings c.parameters_of_symbol-now.result in
    let next = with_entry i.out.settings c.parameters_of_symbol-next.result in
    let words : List ℕ = c.next_words.new.words.labels.items in
    let made = bytes_made c.settings.ensures.mode c.steps.ensures.next m i.settings (with_entry i.inner.settings c.parameters_of_symbol-now.result) now next i.made
    (parts_of i.hp.outer i.lp.outer i.hp.waiting i.lp.waiting i.inner) i.out (vec_capacity i.labels) (carried_bits m (is_odd i.made) words) inputs
    (present i.settings i.inner.settings i.made c.parameters_of_symbol-now.result c.self.invariant.inner c.parameters_of_symbol-now.ensures.settings) (present i.settings i.out.settings i.made c.parameters_of_symbol-now.result c.self.invariant.out c.parameters_of_symbol-now.ensures.settings)
    (coming i.settings i.out.settings i.made (i.made + 272) c.parameters_of_symbol-next.result c.self.invariant.out refl c.parameters_of_symbol-next.ensures.settings)
    c.self.invariant none (record { repeats = c.symbols_repeat.ensures; follow = c.symbols_follow_labels.ensures }) (λ paths at hp lp. c.next_words.ensures.labels paths (is_odd i.made) (at, hp, lp)) (subst (λ (t : Transmitter). HasPut t inputs) (sym c.self.view_is) h) in
    c.write_words.ensures.bytes
    ∙ ap (λ (z : List ℕ). announcing_bytes now next i.out.number (carried_bits m (is_odd i.out.number) z)) c.deref.ensures.value
    ∙ ap (λ (b : Bool). announcing_bytes now next i.out.number (carried_bits m b words)) (same_parity i.out.number i.made c.self.invariant.symbol)
    ∙ made
    ∙ ap (λ (t : Transmitter). tx_symbol t.settings inputs t.made) c.self.view_is
