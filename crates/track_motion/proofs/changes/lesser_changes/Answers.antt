-- One place more.
use Rattle.std.proofs.Common.{◌≡◌, ℕ, ◌<◌, ◌≤◌, ◌^◌, length, ◌∙◌, arith}
use Rattle.std.proofs.lemmas.List.{length-set}
use Rattle.tracking.specs.BadSymbols.{lesser_change}
use Rattle.tracking.specs.InTime.{symbol_at}
use Rattle.track_motion.proofs.Steps.{set_below}
use Rattle.track_motion.proofs.changes.lesser_changes.Goals as goal

pub loop-p-preserved : goal.loop-p-preserved
loop-p-preserved c =
    let i = c.loop-p.invariant in
    let old = c.loop-p.lesser in
    let p = c.loop-p.p in
    let v = c.lesser_change.result in
    let few : p < length old = omega (arith, c.loop-p-test.true, i.long) in
    record {
      long = length-set old p v ∙ i.long;
      is = λ d m k has ef ee some first last lt.
          set_below (λ (q : ℕ) (x : ℕ). c.args.first ≤ q → q < c.args.end → x ≡ lesser_change d m (symbol_at m q)) 0 old p v few
          (λ q less a b. i.is d m q has ef ee some a b less) (λ a b. c.lesser_change.ensures.is d m has ef ee some a b) k lt first last;
      most = set_below (λ (q : ℕ) (x : ℕ). x ≤ 2 ^ 44) 0 old p v few i.most c.lesser_change.ensures.most;
    }
