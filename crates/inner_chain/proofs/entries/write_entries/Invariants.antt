use Rattle.std.proofs.Common.{◌≡◌}
use Rattle.std.specs.Prelude.{vec_capacity}
use Rattle.symbol_interleave.specs.Carried.{carried}
use Rattle.inner_chain.proofs.Entering.{AreEntriesBelow}
use Rattle.inner_chain.proofs.entries.write_entries.Given as goal

abbrev pub invariant-loop-q : goal.invariant-loop-q
invariant-loop-q g l = record { entries : AreEntriesBelow l.settings (carried l.settings.mode l.odd) l.q l.table.items; capacity : vec_capacity l.table ≡ vec_capacity l.initial.table }
