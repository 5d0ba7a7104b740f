use Rattle.std.proofs.Common.{false, true, subst}
use Rattle.std.specs.Prelude.{vec_capacity}
use Rattle.mode_set.specs.declared.settings.Settings.{Settings}
use Rattle.inner_chain.specs.Tables.{IsLabelTable}
use Rattle.inner_chain.proofs.label_tables.turn_label_tables.Goals as goal

pub returns-then-alike-clause-even : goal.returns-then-alike-clause-even
returns-then-alike-clause-even g c = subst (λ (s : Settings). IsLabelTable s false c.args.even.now.items (vec_capacity c.args.even.now)) (c.are_alike-alike.ensures c.if-alike.true c.args.settings.now) c.requires.even

pub returns-then-alike-clause-odd : goal.returns-then-alike-clause-odd
returns-then-alike-clause-odd g c = subst (λ (s : Settings). IsLabelTable s true c.args.odd.now.items (vec_capacity c.args.odd.now)) (c.are_alike-alike.ensures c.if-alike.true c.args.settings.now) c.requires.odd
