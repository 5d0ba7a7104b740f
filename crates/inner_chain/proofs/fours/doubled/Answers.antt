use Rattle.std.proofs.Common.{◌<◌, ◌+◌, ℕ, set, refl, ◌∙◌, arith}
use Rattle.std.specs.Prelude.{slice_index}
use Rattle.std.proofs.lemmas.List.{length-set}
use Rattle.inner_chain.proofs.Quads.{doubled_more, doubled_is}
use Rattle.inner_chain.proofs.fours.doubled.Goals as goal

pub loop-k-init : goal.loop-k-init
loop-k-init c = (refl, λ i l. absurd (omega (arith, l)))

pub loop-k-preserved : goal.loop-k-preserved
loop-k-preserved c =
    let few : c.loop-k.k < 126 = omega (arith, c.loop-k-test.true) in
    let v : ℕ = slice_index c.args.bytes.now (c.args.first + c.loop-k.k) in (
      length-set (set c.loop-k.twice c.loop-k.k v) (126 + c.loop-k.k) v ∙ length-set c.loop-k.twice c.loop-k.k v ∙ c.loop-k.invariant.0,
      doubled_more c.args.bytes.now c.loop-k.twice c.args.first c.loop-k.k few c.loop-k.invariant.0 c.loop-k.invariant.1,
    )

pub returns : goal.returns
returns c = doubled_is c.args.bytes.now c.loop-k.twice c.args.first (λ i l. c.loop-k.invariant.1 i (omega (arith, l)))
