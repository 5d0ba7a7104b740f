use Rattle.std.proofs.Common.{◌≡◌}
use Rattle.std.specs.Prelude.{vec_capacity}
use Rattle.inner_chain.proofs.Entering.{AreEntriesBelow}
use Rattle.inner_chain.proofs.entries.write_word_entries.Given as goal

abbrev pub invariant-loop-word : goal.invariant-loop-word
invariant-loop-word l = record { entries : AreEntriesBelow l.settings (λ w. w) l.word l.table.items; capacity : vec_capacity l.table ≡ vec_capacity l.initial.table }
