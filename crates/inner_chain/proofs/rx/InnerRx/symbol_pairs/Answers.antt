use Rattle.std.proofs.Common.{◌≡◌, ◌∙◌, ◌≤◌, ap₂, length, sym, subst}
use Rattle.mode_set.specs.Entries.{with_entry}
use Rattle.mode_set.specs.StreamTable.{need}
use Rattle.mode_set.specs.declared.modes.Stream.TheVariants.{Hp, Lp}
use Rattle.mode_set.specs.declared.entry.Entry.{Entry}
use Rattle.mode_set.specs.declared.settings.Settings.{Settings}
use Rattle.inner_chain.specs.CostTables.{settings_of}
use Rattle.inner_chain.specs.PairLists.{BeginsWithPairs}
use Rattle.inner_chain.proofs.Fronts.{begins_with}
use Rattle.inner_chain.proofs.rx.InnerRx.symbol_pairs.Goals as goal

pub returns-clause-hp : goal.returns-clause-hp
returns-clause-hp g c =
    let s = settings_of c.turn_to.new.self in
    let here : s ≡ with_entry c.args.self.now c.args.entry.now = ap₂ (λ (z : Settings) (e : Entry). with_entry z e) (c.turn_to.ensures.settings ∙ c.self.view_is) c.turn_to.ensures.latest in
    let fits : need s Hp ≤ length c.args.hp.now = subst (λ (z : Settings). need z Hp ≤ length c.args.hp.now) (sym here) c.requires.hp_room in
    subst (λ (z : Settings). BeginsWithPairs z c.args.cells.now c.args.weights.now c.args.l Hp c.args.hp.now c.write_symbol.new.hp) here
    (begins_with s c.args.cells.now c.args.weights.now c.args.l Hp c.args.hp.now c.write_symbol.new.hp fits c.write_symbol.ensures.hp)

pub returns-clause-lp : goal.returns-clause-lp
returns-clause-lp g c =
    let s = settings_of c.turn_to.new.self in
    let here : s ≡ with_entry c.args.self.now c.args.entry.now = ap₂ (λ (z : Settings) (e : Entry). with_entry z e) (c.turn_to.ensures.settings ∙ c.self.view_is) c.turn_to.ensures.latest in
    let fits : need s Lp ≤ length c.args.lp.now = subst (λ (z : Settings). need z Lp ≤ length c.args.lp.now) (sym here) c.requires.lp_room in
    subst (λ (z : Settings). BeginsWithPairs z c.args.cells.now c.args.weights.now c.args.l Lp c.args.lp.now c.write_symbol.new.lp) here
    (begins_with s c.args.cells.now c.args.weights.now c.args.l Lp c.args.lp.now c.write_symbol.new.lp fits c.write_symbol.ensures.lp)
