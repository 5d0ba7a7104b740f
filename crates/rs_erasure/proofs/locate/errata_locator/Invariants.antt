use Rattle.rs_erasure.proofs.Products.{IsPartly}
use Rattle.rs_erasure.proofs.locate.errata_locator.Given as goal

abbrev pub invariant-loop-power : goal.invariant-loop-power
invariant-loop-power l = IsPartly l.powers l.locator l.power-index l.product
