-- One place more.
use Rattle.std.proofs.Common.{◌≡◌, ℕ, ◌<◌, ◌^◌, true, length, ◌∙◌, arith}
use Rattle.std.proofs.lemmas.List.{length-set}
use Rattle.tracking.specs.Comb.{turn, comb_of}
use Rattle.tracking.specs.InTime.{symbol_at}
use Rattle.track_arithmetic.specs.Laws.{IsWithin}
use Rattle.track_arithmetic.specs.Numbers.{nothing}
use Rattle.track_arithmetic.specs.declared.complex.Complex.{Complex}
use Rattle.track_motion.specs.Places.{in_file}
use Rattle.track_motion.proofs.Steps.{set_below}
use Rattle.track_motion.proofs.surroundings.turns.Goals as goal

pub loop-p-preserved : goal.loop-p-preserved
loop-p-preserved g c =
    let i = c.loop-p.invariant in
    let old = c.loop-p.turns in
    let p = c.loop-p.p in
    let v = c.turn_at.result in
    let few : p < length old = omega (arith, c.loop-p-test.true, i.long) in
    record {
      long = length-set old p v ∙ i.long;
      is = λ symbols k h lt there.
          set_below (λ (q : ℕ) (x : Complex). in_file c.args.window.now.count c.args.m q ≡ true → x ≡ turn (comb_of g.M.Carriers.MODE symbols) c.args.m (symbol_at c.args.m q)) nothing old p v few
          (λ q less a. i.is symbols q h less a) (λ a. c.turn_at.ensures.is symbols h a) k lt there;
      within = set_below (λ (q : ℕ) (x : Complex). IsWithin (2 ^ 14) x) nothing old p v few i.within c.turn_at.ensures.within;
    }
