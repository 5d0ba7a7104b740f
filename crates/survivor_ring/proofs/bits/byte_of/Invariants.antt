use Rattle.std.proofs.Common.{◌≡◌, take}
use Rattle.spec_words.specs.Bits.{spelled}
use Rattle.survivor_ring.proofs.bits.byte_of.Given as goal

abbrev pub invariant-loop-k : goal.invariant-loop-k
invariant-loop-k l = spelled l.k l.byte ≡ take l.k l.bits
