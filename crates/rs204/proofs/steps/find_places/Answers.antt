use Rattle.std.proofs.Common.{refl, ap, inl, inr, arith, replicate}
use Rattle.gf256.specs.Field as field
use Rattle.rs204.specs.Decoding.{is_root}
use Rattle.rs204.specs.declared.steps.Places.{Places}
use Rattle.rs204.proofs.CodeSteps.{found_next, found_room, found_zero}
use Rattle.rs204.proofs.steps.find_places.Goals.{then-value-eq0, else-value-eq0}
use Rattle.rs204.proofs.steps.find_places.Goals as goal

pub loop-k-init : goal.loop-k-init
loop-k-init c = (refl, omega arith, found_zero (is_root c.args.polynomial.now) (replicate 16 0))

pub bounds-found-found : goal.bounds-found-found
bounds-found-found c =
    let k = c.loop-k.k in let h = c.loop-k.invariant in
    found_room c.args.polynomial.now c.loop-k.found.at c.loop-k.found.count k (field.power k) _ refl (c.values_at_places-values.ensures.each k c.loop-k-test.true) c.if-value-eq0.true c.requires.few
    h.0 h.1 c.loop-k-test.true h.2

pub loop-k-preserved : goal.loop-k-preserved
loop-k-preserved c =
    let p = c.args.polynomial.now in let found = c.loop-k.found in let h = c.loop-k.invariant in let k = c.loop-k.k in
    let is = c.values_at_places-values.ensures.each k c.loop-k-test.true in
    elim c.if-value-eq0.branch [
      | then-value-eq0 w ↦
          found_next p found.at _ found.count _ k _ (field.power k) refl is h.0 h.1
          (inl (w.if-value-eq0.true, found_room p found.at found.count k (field.power k) _ refl is w.if-value-eq0.true c.requires.few h.0 h.1 c.loop-k-test.true h.2, ap (λ (q : Places). q.at) w.found-is, ap (λ (q : Places). q.count) w.found-is)) h.2
      | else-value-eq0 w ↦
          found_next p found.at _ found.count _ k _ (field.power k) refl is h.0 h.1
          (inr (w.if-value-eq0.false, ap (λ (q : Places). q.at) w.found-is, ap (λ (q : Places). q.count) w.found-is)) h.2
    ]
