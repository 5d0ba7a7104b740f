use Rattle.std.proofs.Common.{◌<◌, length, refl, ◌∙◌, arith}
use Rattle.std.proofs.lemmas.List.{length-set}
use Rattle.inner_chain.proofs.Quads.{ones_more}
use Rattle.inner_chain.proofs.fours.ones.Goals as goal

pub loop-k-init : goal.loop-k-init
loop-k-init c = (refl, λ j l. absurd (omega (arith, l)))

pub loop-k-preserved : goal.loop-k-preserved
loop-k-preserved c =
    let within : c.loop-k.k < length c.loop-k.ones = omega (arith, c.loop-k-test.true, c.loop-k.invariant.0) in
    (length-set c.loop-k.ones c.loop-k.k _ ∙ c.loop-k.invariant.0, ones_more c.args.bits.now c.loop-k.ones c.args.first c.loop-k.k within c.loop-k.invariant.1)

pub returns : goal.returns
returns c = λ j l. c.loop-k.invariant.1 j (omega (arith, l))
