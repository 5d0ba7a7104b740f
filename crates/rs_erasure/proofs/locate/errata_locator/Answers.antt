use Rattle.std.proofs.Common.{arith, refl, sym, subst, ◌++◌, ◌∷◌, []}
use Rattle.rs_erasure.proofs.Products.{IsPartly, started, goes_on, finished}
use Rattle.rs_erasure.proofs.locate.errata_locator.Goals as goal

pub loop-power-init : goal.loop-power-init
loop-power-init c =
    subst (λ z. IsPartly c.args.powers.now c.args.locator.now 0 (z ++ 0 ∷ 0 ∷ 0 ∷ 0 ∷ [])) (sym c.copy_from_slice.ensures.after) (started c.args.powers.now c.args.locator.now c.told-locator c.fits-locator c.requires)

pub loop-power-preserved : goal.loop-power-preserved
loop-power-preserved c =
    goes_on c.args.powers.now c.args.locator.now c.loop-power.power-index c.loop-power.product c.multiply.new.polynomial _ (omega (arith, c.told-powers)) c.loop-power-test.true refl (c.fits-powers c.loop-power.power-index)
    c.multiply.array_long c.multiply.ensures.bytes c.multiply.ensures.is c.loop-power.invariant

pub returns : goal.returns
returns c = record {
  is = finished c.args.powers.now c.args.locator.now c.loop-power.power-index c.loop-power.product (omega (arith, c.told-powers)) c.loop-power.invariant;
  size = c.loop-power.invariant.size;
}
