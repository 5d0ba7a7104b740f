use Rattle.std.proofs.Common.{◌≡◌, ◌+◌, ◌++◌, length, take}
use Rattle.spec_words.specs.Bits.{spelled}
use Rattle.survivor_ring.proofs.bits.append_first.Given as goal

abbrev pub invariant-loop-k : goal.invariant-loop-k
invariant-loop-k l = record {
  bits : l.to ≡ l.fn.to ++ take l.k (spelled 8 l.byte);
  amount : length l.to ≡ length l.fn.to + l.k;
}
