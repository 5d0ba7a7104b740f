-- One point more.
use Rattle.std.proofs.Common.{◌≡◌, ℕ, ◌<◌, ◌^◌, length, ◌∙◌, arith}
use Rattle.std.proofs.lemmas.List.{length-set}
use Rattle.tracking.specs.Comb.{comb_of}
use Rattle.tracking.specs.InTime.{point_gain}
use Rattle.track_motion.proofs.Steps.{set_below}
use Rattle.track_arithmetic.specs.Laws.{IsWithin}
use Rattle.track_arithmetic.specs.Numbers.{nothing}
use Rattle.track_arithmetic.specs.declared.complex.Complex.{Complex}
use Rattle.track_comb_gains.proofs.plain.point_gains.Goals as goal

pub point_gain-requires-clause-counts_there : goal.point_gain-requires-clause-counts_there
point_gain-requires-clause-counts_there g c = λ d i few lt set. c.all_counting-counts.ensures.there c.args.window.now.count c.args.m d i c.requires.look few lt set

pub loop-j-preserved : goal.loop-j-preserved
loop-j-preserved g c =
    let i = c.loop-j.invariant in
    let old = c.loop-j.gains in
    let j = c.loop-j.j in
    let v = c.point_gain.result in
    let few : j < length old = omega (arith, c.loop-j-test.true, i.long) in
    record {
      long = length-set old j v ∙ i.long;
      is = λ symbols guard k h around is lt.
          set_below (λ (q : ℕ) (x : Complex). x ≡ point_gain guard (comb_of g.M.Carriers.MODE symbols) c.args.m q) nothing old j v few
          (λ q less. i.is symbols guard q h around is less) (c.point_gain.ensures.is symbols guard h around (λ d few. c.all_counting-counts.ensures.is (comb_of g.M.Carriers.MODE symbols) c.args.m d around few) is) k lt;
      within = set_below (λ (q : ℕ) (x : Complex). IsWithin (2 ^ 21) x) nothing old j v few i.within c.point_gain.ensures.within;
    }
