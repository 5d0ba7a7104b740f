use Rattle.std.proofs.Common.{◌≡◌, ◌∙◌, ◌+◌, ◌-◌, ◌*◌, ap, arith, take, drop}
use Rattle.spec_words.specs.Bits.{spelled}
use Rattle.survivor_ring.proofs.Bytes.{parts_join}
use Rattle.survivor_ring.proofs.bits.append_bytes.Goals as goal

pub loop-k-preserved : goal.loop-k-preserved
loop-k-preserved c =
    let k = c.loop-k.k in
    let e : 8 * k + 8 - 8 * k ≡ 8 * (k + 1) - 8 * k = omega arith in
    parts_join c.args.row.now c.args.to.now c.loop-k.to c.push_byte.new.self (spelled 8 c.byte_of.result) (8 * k) (8 * (k + 1)) (omega arith) c.loop-k.invariant c.push_byte.ensures.bits (c.byte_of.ensures ∙ ap (λ z. take z (drop (8 * k) c.args.row.now)) e)
