use Rattle.std.proofs.Common.{subst}
use Rattle.mode_set.specs.declared.settings.Settings.{Settings}
use Rattle.inner_chain.specs.Tables.{AreWordEntries}
use Rattle.inner_chain.proofs.word_labels.turn_word_table.Goals as goal

pub returns-then-is_for-clause-entries : goal.returns-then-is_for-clause-entries
returns-then-is_for-clause-entries c =
    let known = c.is_for.ensures c.if-is_for.true in
    subst (λ (z : Settings). AreWordEntries z c.args.entries.now.items) (known.2 c.args.settings.now) (c.requires.are known.0 known.1)
