use Rattle.std.proofs.Common.{rules, ◌≡◌, Bool, List, length, take, sym, subst, ◌∙◌}
use Rattle.mode_set.specs.Entries.{with_entry}
use Rattle.mode_set.specs.StreamTable.{need}
use Rattle.mode_set.specs.declared.modes.Stream.TheVariants.{Hp, Lp}
use Rattle.mode_set.specs.declared.settings.Settings.{Settings}
use Rattle.inner_chain.specs.Labels.{AreWordLabels, IsBefore, Paths, TxState, behind, coded_bits, input_bits}
use Rattle.inner_chain.specs.Tables.{AreAllParities}
use Rattle.inner_chain.proofs.Symbols.{written_over}
use Rattle.inner_chain.proofs.tx.InnerTx.word_labels.Goals as goal

pub returns-clause-labels : goal.returns-clause-labels
returns-clause-labels g c =
    let inside : TxState = record { settings = c.self.inside.settings; hp = c.self.inside.hp; lp = c.self.inside.lp } in
    let seen : inside ≡ c.args.self.now = search rules in
    let long : c.self.inside.parities.len ≡ length c.code.new.parities = search rules in
    let read : c.code.new.parities ≡ c.deref-2.result.now = sym (c.deref-2.ensures.value ∙ written_over c.self.inside.parities.len c.code.new.parities _ long) in
    λ paths fed. (subst (λ (st : TxState). (paths : Paths) → IsBefore st paths → take (need (with_entry st.settings c.args.entry.now) Hp) c.args.hp.now ≡ input_bits (with_entry st.settings c.args.entry.now) paths Hp
    → take (need (with_entry st.settings c.args.entry.now) Lp) c.args.lp.now ≡ input_bits (with_entry st.settings c.args.entry.now) paths Lp
    → AreWordLabels (with_entry st.settings c.args.entry.now) (coded_bits (with_entry st.settings c.args.entry.now) paths) c.write_word_labels.new.to) seen
    (subst (λ (z : Settings). (paths : Paths) → IsBefore inside paths → take (need z Hp) c.args.hp.now ≡ input_bits z paths Hp → take (need z Lp) c.args.lp.now ≡ input_bits z paths Lp
    → AreWordLabels z (coded_bits z paths) c.write_word_labels.new.to) c.with_entry-present.ensures
    (λ paths at hp lp. c.write_word_labels.ensures.labels paths (subst (λ (z : List Bool). AreAllParities c.with_entry-present.result paths z) read (c.code.ensures.parities c.self.inside.settings paths at hp lp))))) paths fed.0 fed.1 fed.2

pub returns-clause-next : goal.returns-clause-next
returns-clause-next g c =
    let inside : TxState = record { settings = c.self.inside.settings; hp = c.self.inside.hp; lp = c.self.inside.lp } in
    let seen : inside ≡ c.args.self.now = search rules in
    λ paths fed. (subst (λ (st : TxState). (paths : Paths) → IsBefore st paths → take (need (with_entry st.settings c.args.entry.now) Hp) c.args.hp.now ≡ input_bits (with_entry st.settings c.args.entry.now) paths Hp
    → take (need (with_entry st.settings c.args.entry.now) Lp) c.args.lp.now ≡ input_bits (with_entry st.settings c.args.entry.now) paths Lp
    → IsBefore (record { settings = c.self.inside.settings; hp = c.code.new.hp_encoder; lp = c.code.new.lp_encoder }) (behind (with_entry st.settings c.args.entry.now) paths)) seen
    (subst (λ (z : Settings). (paths : Paths) → IsBefore inside paths → take (need z Hp) c.args.hp.now ≡ input_bits z paths Hp → take (need z Lp) c.args.lp.now ≡ input_bits z paths Lp
    → IsBefore (record { settings = c.self.inside.settings; hp = c.code.new.hp_encoder; lp = c.code.new.lp_encoder }) (behind z paths)) c.with_entry-present.ensures
    (λ paths at hp lp. c.code.ensures.next c.self.inside.settings paths at hp lp))) paths fed.0 fed.1 fed.2
