use Rattle.std.proofs.Common.{rules, ◌%◌, arith}
use Rattle.mode_set.specs.declared.modes.Stream.TheVariants.{Hp, Lp}
use Rattle.symbol_parameters.specs.Spans.{settings_at}
use Rattle.inner_receiver.proofs.Rooms.{told, fits, front_is}
use Rattle.inner_receiver.proofs.pairs.put_pairs.Goals as goal

pub symbol_pairs-requires-clause-hp_room : goal.symbol_pairs-requires-clause-hp_room
symbol_pairs-requires-clause-hp_room g c =
    let few = fits c.settings.ensures.mode c.steps.ensures.streams c.args.settings.now c.args.inner.now c.parameters_of_symbol-entry.result c.args.symbol Hp c.requires.inner c.parameters_of_symbol-entry.ensures.settings in
    omega (arith, c.requires.hp_room, few)

pub returns-clause-hp : goal.returns-clause-hp
returns-clause-hp g c =
    let same = told c.args.settings.now c.args.inner.now (settings_at c.args.settings.now c.args.symbol) c.parameters_of_symbol-entry.result c.requires.inner c.parameters_of_symbol-entry.ensures.settings in
    front_is _ (settings_at c.args.settings.now c.args.symbol) c.args.cells.now c.args.weights.now (c.args.symbol % 68) Hp c.steps-hp_steps.result _ _ c.symbol_pairs.new.hp _ same c.steps-hp_steps.ensures (search rules) c.symbol_pairs.ensures.hp

pub returns-clause-hp_few : goal.returns-clause-hp_few
returns-clause-hp_few g c =
    let few = fits c.settings.ensures.mode c.steps.ensures.streams c.args.settings.now c.args.inner.now c.parameters_of_symbol-entry.result c.args.symbol Hp c.requires.inner c.parameters_of_symbol-entry.ensures.settings in
    omega (arith, few, c.steps-hp_steps.ensures)

pub symbol_pairs-requires-clause-lp_room : goal.symbol_pairs-requires-clause-lp_room
symbol_pairs-requires-clause-lp_room g c =
    let few = fits c.settings.ensures.mode c.steps.ensures.streams c.args.settings.now c.args.inner.now c.parameters_of_symbol-entry.result c.args.symbol Lp c.requires.inner c.parameters_of_symbol-entry.ensures.settings in
    omega (arith, c.requires.lp_room, few)

pub returns-clause-lp : goal.returns-clause-lp
returns-clause-lp g c =
    let same = told c.args.settings.now c.args.inner.now (settings_at c.args.settings.now c.args.symbol) c.parameters_of_symbol-entry.result c.requires.inner c.parameters_of_symbol-entry.ensures.settings in
    front_is _ (settings_at c.args.settings.now c.args.symbol) c.args.cells.now c.args.weights.now (c.args.symbol % 68) Lp c.steps-lp_steps.result _ _ c.symbol_pairs.new.lp _ same c.steps-lp_steps.ensures (search rules) c.symbol_pairs.ensures.lp

pub returns-clause-lp_few : goal.returns-clause-lp_few
returns-clause-lp_few g c =
    let few = fits c.settings.ensures.mode c.steps.ensures.streams c.args.settings.now c.args.inner.now c.parameters_of_symbol-entry.result c.args.symbol Lp c.requires.inner c.parameters_of_symbol-entry.ensures.settings in
    omega (arith, few, c.steps-lp_steps.ensures)
