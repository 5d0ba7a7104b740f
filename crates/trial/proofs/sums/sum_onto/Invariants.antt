-- The bytes so far were added.
use Rattle.std.proofs.Common.{◌≡◌, ◌+◌, take}
use Rattle.std.specs.Prelude.{◌%◌, ◌^◌, sum}
use Rattle.trial.proofs.sums.sum_onto.Given as goal

abbrev pub invariant-loop-byte : goal.invariant-loop-byte
invariant-loop-byte l = l.total ≡ (l.initial.total + sum (take l.byte-index l.bytes)) % 2 ^ 32
