use Rattle.std.proofs.Common.{rules, refl, arith, ap, ◌∙◌, ◌≡◌, ◌+◌, ◌*◌, length, length-append, take}
use Rattle.bit_pack.specs.Queue.{bits_of_bytes}
use Rattle.bit_pack.proofs.Spelling.{bytes_long, put_more}
use Rattle.bit_pack.proofs.bit_buf.BitBuf.push_each.Goals as goal

pub push_byte-requires : goal.push_byte-requires
push_byte-requires g c =
    let long : length c.loop-byte.self ≡ length c.args.self.now + 8 * c.loop-byte.byte-index =
    ap length c.loop-byte.invariant ∙ length-append c.args.self.now (bits_of_bytes (take c.loop-byte.byte-index c.args.bytes.now)) ∙ ap (λ z. length c.args.self.now + z) (bytes_long c.args.bytes.now c.loop-byte.byte-index (omega (arith, c.loop-byte-test.true))) in
    (search rules, omega (arith, long, c.requires.room, c.loop-byte-test.true))

pub loop-byte-preserved : goal.loop-byte-preserved
loop-byte-preserved g c = put_more c.args.self.now c.loop-byte.self c.push_byte.new.self c.args.bytes.now c.loop-byte.byte-index _ (omega (arith, c.loop-byte-test.true)) refl c.loop-byte.invariant c.push_byte.ensures.bits
