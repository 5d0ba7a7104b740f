use Rattle.std.proofs.Common.{refl, subst, arith}
use Rattle.survivor_ring.proofs.Eights.{Walked, walked_more, byte_is}
use Rattle.survivor_ring.proofs.ring.trace_byte.Goals as goal

pub loop-k-preserved : goal.loop-k-preserved
loop-k-preserved c =
    walked_more c.args.words.now c.args.state c.loop-k.k c.loop-k.walk c.walk_back-walk.result _ c.requires.number c.loop-k-test.true refl c.walk_back-walk.ensures.state c.walk_back-walk.ensures.rest c.loop-k.invariant

pub returns-clause-bits : goal.returns-clause-bits
returns-clause-bits c = byte_is c.args.words.now c.args.state c.loop-k.walk _ c.reversed.result c.requires.number (subst (λ z. Walked c.args.words.now c.args.state z c.loop-k.walk) (omega (arith, c.loop-k-test.false, c.loop-k.auto.k-end)) c.loop-k.invariant) refl c.reversed.ensures
