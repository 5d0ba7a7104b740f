-- For any streams there are paths that begin with the registers and the pending bits.
use Rattle.std.proofs.Common.{ap, length}
use Rattle.mode_set.specs.Entries.{with_entry}
use Rattle.mode_set.specs.declared.modes.Stream.TheVariants.{Hp, Lp}
use Rattle.inner_chain.specs.Labels.{coded_bits}
use Rattle.modulator.proofs.Labelling.{own_paths, own_at, own_hp, own_lp, labels_agree, labels_count, labels_small}
use Rattle.modulator.proofs.next_labels.next_labels.Goals as goal

pub returns-clause-labels : goal.returns-clause-labels
returns-clause-labels g c = λ paths at hp lp.
    let z = with_entry c.args.inner.now.settings c.args.entry.now in
    labels_agree z c.args.odd (coded_bits z paths) _ c.labels.new.to.items (c.labels.ensures.labels paths at hp lp) c.clear.ensures.items

pub returns-clause-hp_register : goal.returns-clause-hp_register
returns-clause-hp_register g c =
    let st = c.args.inner.now in
    let z = with_entry st.settings c.args.entry.now in
    let own = own_paths st c.args.hp.now c.args.lp.now in
    ap length (c.labels.ensures.next own (own_at st c.args.hp.now c.args.lp.now c.requires.hp_register c.requires.lp_register) (own_hp z st c.args.hp.now c.args.lp.now c.requires.hp_register c.requires.hp) (own_lp z st c.args.hp.now c.args.lp.now c.requires.lp_register c.requires.lp) Hp)

pub returns-clause-lp_register : goal.returns-clause-lp_register
returns-clause-lp_register g c =
    let st = c.args.inner.now in
    let z = with_entry st.settings c.args.entry.now in
    let own = own_paths st c.args.hp.now c.args.lp.now in
    ap length (c.labels.ensures.next own (own_at st c.args.hp.now c.args.lp.now c.requires.hp_register c.requires.lp_register) (own_hp z st c.args.hp.now c.args.lp.now c.requires.hp_register c.requires.hp) (own_lp z st c.args.hp.now c.args.lp.now c.requires.lp_register c.requires.lp) Lp)

pub returns-clause-count : goal.returns-clause-count
returns-clause-count g c =
    let st = c.args.inner.now in
    let z = with_entry st.settings c.args.entry.now in
    let own = own_paths st c.args.hp.now c.args.lp.now in
    labels_count z c.args.odd (coded_bits z own) _ c.labels.new.to.items
    (c.labels.ensures.labels own (own_at st c.args.hp.now c.args.lp.now c.requires.hp_register c.requires.lp_register) (own_hp z st c.args.hp.now c.args.lp.now c.requires.hp_register c.requires.hp) (own_lp z st c.args.hp.now c.args.lp.now c.requires.lp_register c.requires.lp)) c.clear.ensures.items

pub returns-clause-small : goal.returns-clause-small
returns-clause-small g c =
    let st = c.args.inner.now in
    let z = with_entry st.settings c.args.entry.now in
    let own = own_paths st c.args.hp.now c.args.lp.now in
    labels_small z c.args.odd (coded_bits z own) _ c.labels.new.to.items
    (c.labels.ensures.labels own (own_at st c.args.hp.now c.args.lp.now c.requires.hp_register c.requires.lp_register) (own_hp z st c.args.hp.now c.args.lp.now c.requires.hp_register c.requires.hp) (own_lp z st c.args.hp.now c.args.lp.now c.requires.lp_register c.requires.lp)) c.clear.ensures.items
