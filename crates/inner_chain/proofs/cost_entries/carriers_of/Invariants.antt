use Rattle.inner_chain.specs.CostTables.{AreCarriers}
use Rattle.inner_chain.proofs.cost_entries.carriers_of.Given as goal

abbrev pub invariant-loop-k : goal.invariant-loop-k
invariant-loop-k g l = AreCarriers g.M.Carriers.MODE l.k l.list.items
