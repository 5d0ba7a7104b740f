use Rattle.std.proofs.Common.{◌≡◌, ◌++◌, take}
use Rattle.bit_pack.specs.Queue.{bits_of_bytes}
use Rattle.bit_pack.proofs.bit_buf.BitBuf.push_each.Given as goal

abbrev pub invariant-loop-byte : goal.invariant-loop-byte
invariant-loop-byte g l = l.self ≡ l.initial.self ++ bits_of_bytes (take l.byte-index l.bytes)
