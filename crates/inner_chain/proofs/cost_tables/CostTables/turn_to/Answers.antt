use Rattle.std.proofs.Common.{subst}
use Rattle.std.specs.Prelude.{vec_capacity}
use Rattle.mode_set.specs.declared.settings.Settings.{Settings}
use Rattle.inner_chain.specs.CostTables.{AreCostTables}
use Rattle.inner_chain.proofs.cost_tables.CostTables.turn_to.Goals as goal

pub invariant_of-self : goal.invariant_of-self
invariant_of-self c =
    subst (λ (s : Settings). AreCostTables s c.self.inside.metric c.self.inside.hp.items c.self.inside.lp.items (vec_capacity c.self.inside.hp) (vec_capacity c.self.inside.lp) c.self.inside.hp_steps c.self.inside.lp_steps) (c.are_alike-alike.ensures c.if-alike.true c.self.inside.settings)
    c.self.invariant
