use Rattle.std.proofs.Common.{length, ◌<◌, ◌∙◌, arith}
use Rattle.std.proofs.lemmas.List.{length-set}
use Rattle.puncture.proofs.TwoBytes.{words_more}
use Rattle.puncture.proofs.periods.all_words.Goals as goal

pub loop-k-preserved : goal.loop-k-preserved
loop-k-preserved c =
    let within : c.loop-k.k < length c.loop-k.words = omega (arith, c.loop-k.invariant.size, c.loop-k-test.true, c.loop-k.auto.k-end, c.steps_in_period.ensures.few) in
    record { size = length-set c.loop-k.words c.loop-k.k c.words_of.result ∙ c.loop-k.invariant.size; filled = words_more c.args.rate c.loop-k.k c.loop-k.words c.words_of.result within c.loop-k.invariant.filled c.words_of.ensures }
