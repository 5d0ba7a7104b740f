use Rattle.rs204.proofs.Near.{is_locator}
use Rattle.rs204.proofs.steps.locator.Goals as goal

pub returns : goal.returns
returns c = is_locator c.args.errors c.args.values.now c.solution.result c.requires c.solution.ensures
