use Rattle.std.proofs.Common.{◌≡◌, ◌++◌, take, length}
use Rattle.bit_pack.specs.Queue.{bits_of_bytes}
use Rattle.bit_pack.proofs.bit_buf.BitBuf.take_each.Given as goal

abbrev pub invariant-loop-byte : goal.invariant-loop-byte
invariant-loop-byte g l = record {
  size : length l.to ≡ length l.initial.to;
  taken : l.initial.self ≡ bits_of_bytes (take l.byte-index l.to) ++ l.self;
}
