-- One distance more.
use Rattle.std.proofs.Common.{◌≡◌, ℕ, ◌<◌, length, true, ◌∙◌, arith}
use Rattle.std.proofs.lemmas.List.{length-set}
use Rattle.tracking.specs.Comb.{Comb}
use Rattle.tracking.specs.InTime.{counting, place}
use Rattle.track_motion.proofs.Steps.{set_below}
use Rattle.track_motion.specs.Around.{IsAround, IsLook}
use Rattle.track_motion.specs.Places.{in_file}
use Rattle.track_comb_gains.specs.Kept.{has, places_of}
use Rattle.track_comb_gains.proofs.taps.all_counting.Goals as goal

pub loop-d-preserved : goal.loop-d-preserved
loop-d-preserved c =
    let d = c.loop-d.d in
    let old = c.loop-d.counts in
    let i = c.loop-d.invariant in
    let x = c.counting.result in
    let few : d < length old = omega (arith, c.loop-d-test.true, i.long) in
    record {
      long = length-set old d x ∙ i.long;
      is = set_below (λ (k n : ℕ). (comb : Comb) (m : ℕ) → IsAround comb m c.args.around.now → counting comb m k ≡ places_of k n) 0 old d x few i.is c.counting.ensures.is;
      there = set_below (λ (k n : ℕ). (count m j : ℕ) → IsLook count m c.args.around.now → j < 4 → has n j ≡ true → in_file count m (place k j) ≡ true) 0 old d x few i.there c.counting.ensures.there;
      few = set_below (λ (k n : ℕ). n < 16) 0 old d x few i.few c.counting.ensures.few;
    }

pub returns-clause-is : goal.returns-clause-is
returns-clause-is c = λ comb m d around lt. c.loop-d.invariant.is d (omega (arith, lt, c.loop-d-test.false)) comb m around

pub returns-clause-there : goal.returns-clause-there
returns-clause-there c = λ count m d i look lt few set. c.loop-d.invariant.there d (omega (arith, lt, c.loop-d-test.false)) count m i look few set
