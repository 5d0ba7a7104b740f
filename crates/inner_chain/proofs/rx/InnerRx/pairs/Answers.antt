use Rattle.std.proofs.Common.{◌≡◌, ◌∙◌, ap₂, subst}
use Rattle.mode_set.specs.Entries.{with_entry}
use Rattle.mode_set.specs.declared.entry.Entry.{Entry}
use Rattle.mode_set.specs.declared.settings.Settings.{Settings}
use Rattle.inner_chain.specs.CostPairs.{AppendsPairs}
use Rattle.inner_chain.proofs.rx.InnerRx.pairs.Goals as goal

pub returns-clause-pairs : goal.returns-clause-pairs
returns-clause-pairs g c =
    let s = c.settings-settings.result in
    let here : s ≡ with_entry c.args.self.now c.args.entry.now = c.settings-settings.ensures ∙ ap₂ (λ (z : Settings) (e : Entry). with_entry z e) (c.turn_to.ensures.settings ∙ c.self.view_is) c.turn_to.ensures.latest in
    subst (λ (z : Settings). AppendsPairs z c.args.cells.now c.args.weights.now c.args.l c.args.stream c.args.to.now.items c.push_pairs.new.to.items) here c.push_pairs.ensures.pairs
