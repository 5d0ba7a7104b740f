-- The sum so far, with the syndrome of the remaining bits, is the whole.
use Rattle.std.proofs.Common.{◌≡◌, drop}
use Rattle.std.specs.Prelude.{bit_xor}
use Rattle.tps_bch.specs.Syndromes.{syndromes, syndrome_by}
use Rattle.tps_bch.proofs.syndromes.syndrome.Given as goal

abbrev pub invariant-loop-i : goal.invariant-loop-i
invariant-loop-i l = bit_xor l.sum (syndrome_by (drop l.i syndromes) (drop l.i l.bits)) ≡ syndrome_by syndromes l.bits
