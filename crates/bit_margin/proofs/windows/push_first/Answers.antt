use Rattle.std.proofs.Common.{refl}
use Rattle.inner_decoder.specs.declared.decoder.StartState.TheVariants.{Zero}
use Rattle.bit_margin.proofs.Passes.{have_passed, passed_none}
use Rattle.bit_margin.proofs.windows.push_first.Goals as goal

pub push_margins-requires-clause-passed : goal.push_margins-requires-clause-passed
push_margins-requires-clause-passed c = have_passed Zero c.args.window.now 0 _ _ _ (passed_none Zero c.args.window.now c.start_costs-before.result c.args.to.now.items 0 refl c.start_costs-before.ensures)

pub returns-clause-margins : goal.returns-clause-margins
returns-clause-margins c = (c.push_margins.ensures.passed Zero _ (passed_none Zero c.args.window.now c.start_costs-before.result c.args.to.now.items 0 refl c.start_costs-before.ensures)).appended
