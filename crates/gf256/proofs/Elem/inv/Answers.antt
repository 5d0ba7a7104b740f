use Rattle.std.proofs.Common.{◌∙◌, ap₂, sym}
use Rattle.gf256.specs.Field as field
use Rattle.gf256.proofs.FieldLaws.{inverse}
use Rattle.gf256.proofs.Elem.inv.Goals as goal

pub returns : goal.returns
returns c = ap₂ field.mul (sym c.log.ensures.is) c.power.ensures ∙ inverse c.log.result c.log.ensures.below
