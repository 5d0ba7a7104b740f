use Rattle.std.proofs.Common.{◌<◌, ◌∙◌, length, arith}
use Rattle.std.proofs.lemmas.List.{length-set}
use Rattle.inner_chain.proofs.Gathering.{none_written, written_more}
use Rattle.inner_chain.proofs.gather.write_labels.Goals as goal

pub loop-place-init : goal.loop-place-init
loop-place-init g c = record { long = omega arith; labels = none_written _ _ _ _ }

pub loop-place-preserved : goal.loop-place-preserved
loop-place-preserved g c =
    let within : c.loop-place.place < length c.loop-place.to = omega (arith, c.loop-place.invariant.long) in
    record {
      long = length-set _ _ _ ∙ c.loop-place.invariant.long;
      labels = written_more _ _ _ _ _ _ within c.loop-place.invariant.labels c.gathered.ensures;
    }
