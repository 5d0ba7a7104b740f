use Rattle.std.proofs.Common.{◌≡◌, ◌++◌, take, drop}
use Rattle.dispersal.specs.Packet.{xor_from}
use Rattle.dispersal.proofs.packet.mix.Given as goal

-- the bytes so far are XORed, the others unchanged
abbrev pub invariant-loop-i : goal.invariant-loop-i
invariant-loop-i l = l.bytes ≡ xor_from l.initial.start (take l.i l.initial.bytes) ++ drop l.i l.initial.bytes
