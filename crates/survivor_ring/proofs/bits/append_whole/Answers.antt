use Rattle.std.proofs.Common.{◌++◌, ◌∙◌, ap, arith, length-take-le}
use Rattle.survivor_ring.proofs.Eights.{bits_take}
use Rattle.survivor_ring.proofs.bits.append_whole.Goals as goal

pub push_bytes-requires : goal.push_bytes-requires
push_bytes-requires c = omega (arith, length-take-le c.args.number c.args.bytes.now (omega (arith, c.requires.few)), c.requires.room)

pub returns-clause-bits : goal.returns-clause-bits
returns-clause-bits c = c.push_bytes.ensures.bits ∙ ap (λ z. c.args.to.now ++ z) (bits_take c.args.bytes.now c.args.number)

pub returns-clause-amount : goal.returns-clause-amount
returns-clause-amount c = omega (arith, c.push_bytes.ensures.amount, length-take-le c.args.number c.args.bytes.now (omega (arith, c.requires.few)))
