-- For any streams there are paths that begin with the registers and the pending bits.
use Rattle.std.proofs.Common.{rules, ◌≡◌, ◌^◌, ◌<◌, ap, length, get_or, arith, sym, subst, List, ℕ}
use Rattle.mode_set.specs.Entries.{with_entry}
use Rattle.mode_set.specs.declared.modes.Stream.TheVariants.{Hp, Lp}
use Rattle.mode_set.specs.StreamTable.{label_bits}
use Rattle.inner_chain.specs.Labels.{coded_bits, label_bit}
use Rattle.frame_build.specs.Symbol.{Agree}
use Rattle.frame_build.specs.Words.{carried_bits}
use Rattle.modulator.proofs.Labelling.{own_paths, own_at, own_hp, own_lp, words_agree, words_small, written_over}
use Rattle.modulator.proofs.next_labels.next_words.Goals as goal

pub returns-clause-labels : goal.returns-clause-labels
returns-clause-labels g c = λ paths odd fed.
    let z = with_entry c.args.inner.now.settings c.args.entry.now in
    let new : List ℕ = c.word_labels.new.to in
    let long : c.args.words.now.labels.len ≡ length new = search rules in
    subst (λ (x : List ℕ). Agree z (carried_bits g.M.Carriers.MODE odd x) (label_bit z odd (coded_bits z paths))) (sym (written_over c.args.words.now.labels.len new _ long))
    (words_agree c.h_is_a_permutation.ensures c.places_and_words_agree.ensures z g.M.Carriers.MODE odd (coded_bits z paths) new c.requires.mode (c.word_labels.ensures.labels paths fed))

pub returns-clause-hp_register : goal.returns-clause-hp_register
returns-clause-hp_register g c =
    let st = c.args.inner.now in
    let z = with_entry st.settings c.args.entry.now in
    let own = own_paths st c.args.hp.now c.args.lp.now in
    ap length (c.word_labels.ensures.next own (own_at st c.args.hp.now c.args.lp.now c.requires.hp_register c.requires.lp_register, own_hp z st c.args.hp.now c.args.lp.now c.requires.hp_register c.requires.hp, own_lp z st c.args.hp.now c.args.lp.now c.requires.lp_register c.requires.lp) Hp)

pub returns-clause-lp_register : goal.returns-clause-lp_register
returns-clause-lp_register g c =
    let st = c.args.inner.now in
    let z = with_entry st.settings c.args.entry.now in
    let own = own_paths st c.args.hp.now c.args.lp.now in
    ap length (c.word_labels.ensures.next own (own_at st c.args.hp.now c.args.lp.now c.requires.hp_register c.requires.lp_register, own_hp z st c.args.hp.now c.args.lp.now c.requires.hp_register c.requires.hp, own_lp z st c.args.hp.now c.args.lp.now c.requires.lp_register c.requires.lp) Lp)

pub returns-clause-small : goal.returns-clause-small
returns-clause-small g c = λ w l.
    let st = c.args.inner.now in
    let z = with_entry st.settings c.args.entry.now in
    let own = own_paths st c.args.hp.now c.args.lp.now in
    let new : List ℕ = c.word_labels.new.to in
    let long : c.args.words.now.labels.len ≡ length new = search rules in
    subst (λ (x : List ℕ). get_or x w 0 < 2 ^ label_bits c.args.entry.now.shape) (sym (written_over c.args.words.now.labels.len new _ long))
    (words_small z g.M.Carriers.MODE (coded_bits z own) _ c.requires.mode (c.word_labels.ensures.labels own (own_at st c.args.hp.now c.args.lp.now c.requires.hp_register c.requires.lp_register, own_hp z st c.args.hp.now c.args.lp.now c.requires.hp_register c.requires.hp, own_lp z st c.args.hp.now c.args.lp.now c.requires.lp_register c.requires.lp)) w (omega (arith, l, g.M.Carriers.nmax_of)))
