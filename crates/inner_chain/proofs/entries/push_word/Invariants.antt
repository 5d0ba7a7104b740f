use Rattle.std.proofs.Common.{◌≡◌, ◌+◌}
use Rattle.std.specs.Prelude.{vec_capacity, vec_len}
use Rattle.inner_chain.specs.Tables.{AppendsEntries}
use Rattle.inner_chain.proofs.entries.push_word.Given as goal

abbrev pub invariant-loop-e : goal.invariant-loop-e
invariant-loop-e l = record {
  entries : AppendsEntries l.settings l.word l.e l.initial.to.items l.to.items;
  len : vec_len l.to ≡ vec_len l.initial.to + l.e;
  capacity : vec_capacity l.to ≡ vec_capacity l.initial.to;
}
