use Rattle.std.proofs.Common.{◌-◌, ◌*◌, ◌/◌, arith, take, drop, refl}
use Rattle.survivor_ring.proofs.Bytes.{parts_join}
use Rattle.survivor_ring.proofs.bits.append.Goals as goal

pub returns : goal.returns
returns c =
    let m = 8 * (c.args.count / 8) in
    parts_join c.args.row.now c.args.to.now c.append_bytes.new.to c.append_bits.new.to (take (c.args.count - m) (drop m c.args.row.now)) m c.args.count (omega arith) c.append_bytes.ensures c.append_bits.ensures refl
