use Rattle.inner_chain.specs.Tables.{AreRows}
use Rattle.inner_chain.proofs.parities.rows.Given as goal

abbrev pub invariant-loop-number : goal.invariant-loop-number
invariant-loop-number l = AreRows l.list.items l.number
