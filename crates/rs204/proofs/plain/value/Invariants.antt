use Rattle.std.proofs.Common.{◌≡◌, take, reverse}
use Rattle.rs204.specs.Polynomials.{value_at}
use Rattle.rs204.proofs.plain.value.Given as goal

abbrev pub invariant-loop-byte : goal.invariant-loop-byte
invariant-loop-byte l = l.sum ≡ value_at l.x (reverse (take l.byte-index l.word))
