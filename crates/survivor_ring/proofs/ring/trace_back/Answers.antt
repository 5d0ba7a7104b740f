use Rattle.survivor_ring.proofs.Traces.{three_traced}
use Rattle.survivor_ring.proofs.ring.trace_back.Goals as goal

pub returns : goal.returns
returns c =
    record {
      bits =
          three_traced c.as_slices.result.0.now c.as_slices.result.1.now c.args.words.now.items c.args.more.now c.len-count.result c.args.state _ _ _ _ _ _ _ _ c.trace_part.new.bytes c.as_slices.ensures c.len-count.ensures.len c.trace_part-after.ensures.root c.trace_part-between.ensures.root c.requires.room
          c.trace_part.array_long c.trace_part-after.ensures.traced c.trace_part-between.ensures.traced c.trace_part.ensures.traced;
    }
