use Rattle.std.proofs.Common.{◌∙◌}
use Rattle.rs204.proofs.Solving.{differ_at, unscale_next}
use Rattle.rs204.proofs.steps.unscale.Goals as goal

pub inv-requires : goal.inv-requires
inv-requires c = differ_at c.args.place c.args.places.now c.loop-j.j c.requires.differ c.loop-j-test.true

pub loop-j-preserved : goal.loop-j-preserved
loop-j-preserved c =
    unscale_next c.args.places.now c.args.place c.args.values.now c.loop-j.values c.loop-j.sum c.loop-j.j c.inv.result c.mul.result c.loop-j-test.true (c.loop-j.auto.values ∙ c.requires.size)
    c.ranges.place.fits (λ k. (c.type_inv.places k).fits) c.inv.type_inv c.inv.ensures c.mul.ensures c.loop-j.invariant
