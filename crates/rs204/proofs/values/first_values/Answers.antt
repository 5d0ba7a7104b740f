use Rattle.std.proofs.Common.{◌≡◌, refl, subst, arith, take}
use Rattle.rs204.specs.Division.{Holds}
use Rattle.rs204.proofs.PlaceValues.{values_from, summed_none, summed_more, summed_all}
use Rattle.rs204.proofs.values.first_values.Goals as goal

pub loop-j-init : goal.loop-j-init
loop-j-init c = (omega arith, summed_none c.args.terms.now)

pub loop-j-preserved : goal.loop-j-preserved
loop-j-preserved c = (
  omega arith,
  summed_more c.loop-j.sum c.term_at-sum.result _ c.loop-j.j c.args.terms.now (omega (arith, c.told-terms)) c.fits-terms c.loop-j.invariant.1 c.term_at-sum.ensures refl,
)

pub returns : goal.returns
returns c =
    let e : c.loop-j.j ≡ c.args.count = omega (arith, c.loop-j.invariant.0) in
    summed_all c.loop-j.sum (take c.args.count c.args.terms.now) _ (subst (λ n. Holds c.loop-j.sum (values_from (take n c.args.terms.now) 0 16)) e c.loop-j.invariant.1) c.to_le_bytes.ensures
