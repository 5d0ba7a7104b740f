use Rattle.word_workers.specs.declared.gate.Job.TheVariants.{Outer}
use Rattle.word_workers.proofs.Chunks.{DecodesTo, AllEntered}
use Rattle.word_workers.proofs.outer.decode_chunk.Given as goal

abbrev pub invariant-loop-k : goal.invariant-loop-k
invariant-loop-k g l = DecodesTo l.k l.initial.chunk l.chunk × AllEntered (g.G.Gate.has_entered l.gate Outer) l.start l.k
