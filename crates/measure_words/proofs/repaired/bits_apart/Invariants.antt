use Rattle.measure_words.proofs.Bits.{Apart}
use Rattle.measure_words.proofs.repaired.bits_apart.Given as goal

abbrev pub invariant-loop-p : goal.invariant-loop-p
invariant-loop-p l = Apart l.one l.other l.p l.bits
