use Rattle.std.proofs.Common.{◌≡◌, ◌*◌}
use Rattle.std.specs.Prelude.{IsTrue}
use Rattle.mode_set.specs.declared.modes.Stream.TheVariants.{Hp, Lp}
use Rattle.inner_chain.specs.CostTables.{AreFull, WritesPairs, block_steps}
use Rattle.inner_chain.proofs.cost_pairs.write_symbol.Given as goal

abbrev pub invariant-loop-block : goal.invariant-loop-block
invariant-loop-block l = record {
  mode : l.costs.mode ≡ l.initial.costs.mode;
  full : IsTrue l.costs.full → AreFull l.weights;
  hp : WritesPairs l.settings l.cells l.weights l.fn.l Hp (l.block * block_steps l.settings Hp) l.initial.hp l.hp;
  lp : WritesPairs l.settings l.cells l.weights l.fn.l Lp (l.block * block_steps l.settings Lp) l.initial.lp l.lp;
}
