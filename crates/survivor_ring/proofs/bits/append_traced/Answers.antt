use Rattle.std.proofs.Common.{◌*◌, ◌/◌, arith}
use Rattle.bit_pack.specs.Queue.{bits_of_bytes}
use Rattle.survivor_ring.proofs.Bytes.{parts_join}
use Rattle.survivor_ring.proofs.Traces.{rest_is}
use Rattle.survivor_ring.proofs.bits.append_traced.Goals as goal

pub returns-clause-bits : goal.returns-clause-bits
returns-clause-bits c =
    parts_join (bits_of_bytes c.args.bytes.now) c.args.to.now c.append_whole.new.to _ _ (8 * (c.args.count / 8)) c.args.count (omega arith) c.append_whole.ensures.bits c.append_first.ensures.bits
    (rest_is c.args.bytes.now c.args.count (omega (arith, c.requires.few)))
