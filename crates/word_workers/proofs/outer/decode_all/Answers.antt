use Rattle.std.proofs.Common.{◌≡◌, ◌*◌, ◌/◌, ◌<◌, length, arith}
use Rattle.word_workers.specs.declared.gate.Job.TheVariants.{Outer}
use Rattle.word_workers.proofs.Chunks.{chunk_entered, chunk_begins}
use Rattle.word_workers.proofs.outer.decode_all.Goals as goal

pub returns-clause-entered : goal.returns-clause-entered
returns-clause-entered g c = λ i l.
    let size = c.chunk_len-size.result in
    let k = c.for_each_chunk_mut.ensures.chunks (i / size) (chunk_begins i size (length c.args.slots.now) l) in
    chunk_entered (g.G.Gate.has_entered c.args.gate.now Outer) c.args.slots.now k.argument.now size i c.chunk_len-size.ensures.some l k.argument_is k.call.1
