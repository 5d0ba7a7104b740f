use Rattle.std.proofs.Common.{ap, sym}
use Rattle.mode_set.specs.StreamTable.{label_bits}
use Rattle.symbol_interleave.specs.Carried.{carried}
use Rattle.inner_chain.proofs.Symbols.{entries_within, labels_are}
use Rattle.inner_chain.proofs.symbol.push_gathered.Goals as goal

pub push_labels-requires-clause-entries : goal.push_labels-requires-clause-entries
push_labels-requires-clause-entries c = entries_within c.args.settings.now (carried c.args.settings.now.mode c.args.odd) _ _ c.requires.entries c.requires.room

pub push_labels-requires-in-Qam16-clause-entries : goal.push_labels-requires-in-Qam16-clause-entries
push_labels-requires-in-Qam16-clause-entries c = entries_within c.args.settings.now (carried c.args.settings.now.mode c.args.odd) _ _ c.requires.entries c.requires.room

pub push_labels-requires-in-Qam64-clause-entries : goal.push_labels-requires-in-Qam64-clause-entries
push_labels-requires-in-Qam64-clause-entries c = entries_within c.args.settings.now (carried c.args.settings.now.mode c.args.odd) _ _ c.requires.entries c.requires.room

pub returns-in-Qpsk-clause-labels : goal.returns-in-Qpsk-clause-labels
returns-in-Qpsk-clause-labels c = λ paths all.
    labels_are c.args.settings.now c.args.odd paths _ _ _ _ _ _ c.requires.entries c.payload-number.ensures (sym (ap label_bits c.in-Qpsk.is)) all c.push_labels.ensures.labels

pub returns-in-Qam16-clause-labels : goal.returns-in-Qam16-clause-labels
returns-in-Qam16-clause-labels c = λ paths all.
    labels_are c.args.settings.now c.args.odd paths _ _ _ _ _ _ c.requires.entries c.payload-number.ensures (sym (ap label_bits c.in-Qam16.is)) all c.push_labels-in-Qam16.ensures.labels

pub returns-in-Qam64-clause-labels : goal.returns-in-Qam64-clause-labels
returns-in-Qam64-clause-labels c = λ paths all.
    labels_are c.args.settings.now c.args.odd paths _ _ _ _ _ _ c.requires.entries c.payload-number.ensures (sym (ap label_bits c.in-Qam64.is)) all c.push_labels-in-Qam64.ensures.labels
