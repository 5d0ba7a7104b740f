use Rattle.std.proofs.Common.{ℕ, ◌+◌, ◌*◌, List, length, ap, sym, ◌∙◌}
use Rattle.std.specs.Prelude.{slice_index}
use Rattle.mode_set.specs.StreamTable.{label_bits}
use Rattle.inner_chain.proofs.Quads.{gathered_words, words_are}
use Rattle.inner_chain.proofs.Symbols.{entries_within}
use Rattle.inner_chain.proofs.word_labels.write_gathered.Goals as goal

pub write_labels-requires-clause-entries : goal.write_labels-requires-clause-entries
write_labels-requires-clause-entries c = entries_within c.args.settings.now (λ w. w) _ _ c.requires.entries c.requires.room

pub write_labels-requires-in-Qam16-clause-entries : goal.write_labels-requires-in-Qam16-clause-entries
write_labels-requires-in-Qam16-clause-entries c = entries_within c.args.settings.now (λ w. w) _ _ c.requires.entries c.requires.room

pub write_labels-requires-in-Qam64-clause-entries : goal.write_labels-requires-in-Qam64-clause-entries
write_labels-requires-in-Qam64-clause-entries c = entries_within c.args.settings.now (λ w. w) _ _ c.requires.entries c.requires.room

pub returns-in-Qpsk : goal.returns-in-Qpsk
returns-in-Qpsk c = λ paths all.
    let s = c.args.settings.now in
    let entries : List ℕ = c.args.entries.now in
    words_are s paths c.args.parities.now (λ (e w : ℕ). slice_index entries (w * label_bits s.shape + e)) c.write_labels.new.to all
    (gathered_words s c.args.parities.now entries c.write_labels.new.to (length c.args.to.now) 2 c.requires.long (sym (ap label_bits c.in-Qpsk.is)) c.requires.entries c.write_labels.ensures.labels)
    (c.write_labels.ensures.long ∙ c.requires.long)

pub returns-in-Qam16 : goal.returns-in-Qam16
returns-in-Qam16 c = λ paths all.
    let s = c.args.settings.now in
    let entries : List ℕ = c.args.entries.now in
    words_are s paths c.args.parities.now (λ (e w : ℕ). slice_index entries (w * label_bits s.shape + e)) c.write_labels-in-Qam16.new.to all
    (gathered_words s c.args.parities.now entries c.write_labels-in-Qam16.new.to (length c.args.to.now) 4 c.requires.long (sym (ap label_bits c.in-Qam16.is)) c.requires.entries c.write_labels-in-Qam16.ensures.labels)
    (c.write_labels-in-Qam16.ensures.long ∙ c.requires.long)

pub returns-in-Qam64 : goal.returns-in-Qam64
returns-in-Qam64 c = λ paths all.
    let s = c.args.settings.now in
    let entries : List ℕ = c.args.entries.now in
    words_are s paths c.args.parities.now (λ (e w : ℕ). slice_index entries (w * label_bits s.shape + e)) c.write_labels-in-Qam64.new.to all
    (gathered_words s c.args.parities.now entries c.write_labels-in-Qam64.new.to (length c.args.to.now) 6 c.requires.long (sym (ap label_bits c.in-Qam64.is)) c.requires.entries c.write_labels-in-Qam64.ensures.labels)
    (c.write_labels-in-Qam64.ensures.long ∙ c.requires.long)
