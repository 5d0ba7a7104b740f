use Rattle.std.proofs.Common.{arith, ap, ◌∙◌, ◌≡◌, ◌+◌, ◌*◌, length, length-append, take}
use Rattle.std.proofs.lemmas.List.{length-set}
use Rattle.bit_pack.specs.Queue.{bits_of_bytes}
use Rattle.bit_pack.proofs.Spelling.{bytes_long, bytes_more}
use Rattle.bit_pack.proofs.bit_buf.BitBuf.take_each.Goals as goal

pub take_one-requires : goal.take_one-requires
take_one-requires g c =
    let long : length c.args.self.now ≡ 8 * c.loop-byte.byte-index + length c.loop-byte.self =
    ap length c.loop-byte.invariant.taken ∙ length-append (bits_of_bytes (take c.loop-byte.byte-index c.loop-byte.to)) c.loop-byte.self ∙ ap (λ z. z + length c.loop-byte.self) (bytes_long c.loop-byte.to c.loop-byte.byte-index (omega (arith, c.loop-byte-test.true, c.loop-byte.invariant.size))) in
    omega (arith, long, c.requires, c.loop-byte-test.true, c.loop-byte.invariant.size)

pub loop-byte-preserved : goal.loop-byte-preserved
loop-byte-preserved g c = record {
  size = length-set c.loop-byte.to c.loop-byte.byte-index c.take_one.result ∙ c.loop-byte.invariant.size;
  taken = c.loop-byte.invariant.taken ∙ bytes_more c.loop-byte.to c.take_one.new.self c.loop-byte.self c.take_one.result c.loop-byte.byte-index (omega (arith, c.loop-byte-test.true, c.loop-byte.invariant.size)) c.take_one.ensures;
}
