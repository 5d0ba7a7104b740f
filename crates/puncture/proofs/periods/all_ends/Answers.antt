use Rattle.std.proofs.Common.{length, ◌<◌, ◌∙◌, arith}
use Rattle.std.proofs.lemmas.List.{length-set}
use Rattle.puncture.proofs.TwoBytes.{ends_more}
use Rattle.puncture.proofs.periods.all_ends.Goals as goal

pub loop-place-preserved : goal.loop-place-preserved
loop-place-preserved c =
    let within : c.loop-place.place < length c.loop-place.ends = omega (arith, c.loop-place.invariant.size, c.loop-place-test.true, c.loop-place.auto.place-end, c.steps_in_period-place-end.ensures.few) in
    record { size = length-set c.loop-place.ends c.loop-place.place c.end_of.result ∙ c.loop-place.invariant.size; filled = ends_more c.args.rate c.loop-place.place c.loop-place.ends c.end_of.result within c.loop-place.invariant.filled c.end_of.ensures }
