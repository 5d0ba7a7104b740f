use Rattle.std.proofs.Common.{◌≡◌, ◌++◌, length, take}
use Rattle.spec_words.specs.Bits.{spelled}
use Rattle.bit_pack.specs.Queue.{bits_of_bytes}
use Rattle.bit_pack.proofs.bit_buf.shift_part.Given as goal

abbrev pub invariant-loop-k : goal.invariant-loop-k
invariant-loop-k l = record {
  size : length l.to ≡ length l.part;
  bits : spelled l.back_len l.back ++ bits_of_bytes (take l.k l.part) ≡ bits_of_bytes (take l.k l.to) ++ spelled l.back_len l.last;
}
