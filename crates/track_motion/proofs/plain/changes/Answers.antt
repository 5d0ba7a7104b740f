-- One place more.
use Rattle.std.proofs.Common.{◌≡◌, ℕ, ◌<◌, ◌≤◌, ◌^◌, length, sym, ◌∙◌, arith}
use Rattle.std.proofs.lemmas.List.{length-set}
use Rattle.tracking.specs.Comb.{change, comb_of}
use Rattle.tracking.specs.InTime.{symbol_at}
use Rattle.track_motion.specs.Places.{end_place, first_place}
use Rattle.track_motion.proofs.Steps.{set_below}
use Rattle.track_motion.proofs.Tests.{count_of}
use Rattle.track_motion.proofs.plain.changes.Goals as goal

pub loop-p-preserved : goal.loop-p-preserved
loop-p-preserved g c =
    let i = c.loop-p.invariant in
    let old = c.loop-p.changes in
    let p = c.loop-p.p in
    let v = c.change_at.result in
    let few : p < length old = omega (arith, c.loop-p-test.true, i.long) in
    record {
      long = length-set old p v ∙ i.long;
      is = λ symbols k h first last lt.
          set_below (λ (q : ℕ) (x : ℕ). first_place c.args.m < q → q < end_place c.args.window.now.count c.args.m → x ≡ change (comb_of g.M.Carriers.MODE symbols) (symbol_at c.args.m q)) 0 old p v few
          (λ q less a b. i.is symbols q h a b less) (λ a b. c.change_at.ensures.is symbols h a b) k lt first last;
      most = set_below (λ (q : ℕ) (x : ℕ). x ≤ 2 ^ 44) 0 old p v few i.most c.change_at.ensures.most;
    }

pub returns-clause-are : goal.returns-clause-are
returns-clause-are g c = λ symbols h.
    let count : (comb_of g.M.Carriers.MODE symbols).count ≡ c.args.window.now.count = count_of g.M.Carriers.MODE symbols ∙ sym h.number in
    record { is = λ p first last. c.loop-p.invariant.is symbols p h first (omega (arith, last, count)) (omega (arith, last, count, c.loop-p-test.false)) }
