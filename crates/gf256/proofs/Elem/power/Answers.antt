use Rattle.std.proofs.Common.{arith, ◌∙◌}
use Rattle.gf256.proofs.TableRules.{powers_are}
use Rattle.gf256.proofs.Elem.power.Goals as goal

pub returns : goal.returns
returns c = c.power_at.ensures ∙ powers_are c.args.exponent (omega arith)
