use Rattle.std.proofs.Common.{◌<◌, length, arith}
use Rattle.word_workers.specs.declared.gate.Job.TheVariants.{Outer}
use Rattle.word_workers.proofs.Chunks.{decodes_none, decodes_more, entered_more}
use Rattle.word_workers.proofs.outer.decode_chunk.Goals as goal

pub loop-k-init : goal.loop-k-init
loop-k-init g c = (decodes_none c.args.chunk.now, λ i l. absurd (omega (arith, l)))

pub loop-k-preserved : goal.loop-k-preserved
loop-k-preserved g c =
    let l : c.loop-k.k < length c.args.chunk.now = omega arith in (
      decodes_more c.loop-k.k c.args.chunk.now c.loop-k.chunk c.decode_one.new.slot _ l c.decode_one.ensures.decoded c.loop-k.invariant.0,
      entered_more (g.G.Gate.has_entered c.args.gate.now Outer) c.args.start c.loop-k.k c.decode_one.ensures.entered c.loop-k.invariant.1,
    )

pub returns : goal.returns
returns g c = record { each = λ i d m. c.loop-k.invariant.0.below i d (omega arith); entered = λ i m. c.loop-k.invariant.1 i (omega arith) }
