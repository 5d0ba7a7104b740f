use Rattle.std.proofs.Common.{refl, arith, length}
use Rattle.rs204.proofs.PlaceValues.{terms_first, terms_next, places_next}
use Rattle.rs204.proofs.values.values_at_places.Goals as goal

pub loop-block-init : goal.loop-block-init
loop-block-init c =
    let p = c.args.polynomial.now in
    (refl, c.terms_of-terms.ensures.size, terms_first p c.terms_of-terms.result (length p) (λ k. (c.type_inv.polynomial k).fits) c.terms_of-terms.ensures.each, λ k l. absurd (omega arith))

pub loop-block-preserved : goal.loop-block-preserved
loop-block-preserved c =
    let p = c.args.polynomial.now in
    let h = c.loop-block.invariant in (
      c.put_twelve.ensures.size,
      c.advance.ensures.size,
      terms_next c.loop-block.block (length p) p c.loop-block.terms c.advance.new.terms (λ k. (c.type_inv.polynomial k).fits) h.2 c.advance.ensures.each,
      places_next c.loop-block.block (length p) p c.loop-block.terms c.loop-block.values c.put_twelve.new.values c.first_values-next.result refl (omega (arith, h.1, c.requires)) (λ k. (c.type_inv.polynomial k).fits) h.2 h.3 c.first_values-next.ensures
          c.put_twelve.ensures.before c.put_twelve.ensures.put,
    )
