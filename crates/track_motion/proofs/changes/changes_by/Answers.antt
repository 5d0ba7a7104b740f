-- One place more.
use Rattle.std.proofs.Common.{◌≡◌, ℕ, ◌+◌, ◌%◌, ◌<◌, ◌≤◌, ◌^◌, length, get_or, refl, sym, ◌∙◌, subst, arith}
use Rattle.std.proofs.lemmas.List.{length-set}
use Rattle.track_motion.proofs.Keeps.{by_places}
use Rattle.track_motion.proofs.Steps.{set_below}
use Rattle.track_motion.proofs.changes.changes_by.Goals as goal

pub loop-p-preserved : goal.loop-p-preserved
loop-p-preserved c =
    let i = c.loop-p.invariant in
    let old = c.loop-p.changes in
    let p = c.loop-p.p in
    let v = get_or c.args.kept.now ((c.args.m + p + 9) % 16) 0 in
    let few : p < length old = omega (arith, c.loop-p-test.true, i.long) in
    record {
      long = length-set old p v ∙ i.long;
      is = set_below (λ (q : ℕ) (x : ℕ). x ≡ get_or c.args.kept.now ((c.args.m + q + 9) % 16) 0) 0 old p v few i.is refl;
    }

pub returns-clause-are : goal.returns-clause-are
returns-clause-are c = λ d keeps there late. by_places d c.args.m c.args.kept.now c.loop-p.changes (λ p lt. c.loop-p.invariant.is p (omega (arith, lt, c.loop-p-test.false))) keeps there late

pub returns-clause-most : goal.returns-clause-most
returns-clause-most c = λ p lt. subst (λ (z : ℕ). z ≤ 2 ^ 44) (sym (c.loop-p.invariant.is p (omega (arith, lt, c.loop-p-test.false)))) (c.requires.small ((c.args.m + p + 9) % 16) (omega arith))
