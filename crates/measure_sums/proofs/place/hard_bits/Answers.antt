-- The bits of the two axes by turns.
use Rattle.std.proofs.Common.{ap, rules, ◌∙◌}
use Rattle.std.specs.Prelude.{ℤ}
use mir.Val.{SFits}
use mir.Syntax.{w16}
use Rattle.std.proofs.lemmas.Int.{to_z-of_z}
use Rattle.hard_decision.specs.Hard.{axis_bit}
use Rattle.measure_sums.proofs.Placing.{by_turns}
use Rattle.measure_sums.proofs.place.hard_bits.Goals as goal

pub returns : goal.returns
returns c =
    let re_fits : SFits w16 c.args.cell.re = search rules in
    let im_fits : SFits w16 c.args.cell.im = search rules in
    λ e l. by_turns c.args.decision.now c.args.cell c.bits-re.result c.bits-im.result
    (λ i k. c.bits-re.ensures.bits i k ∙ ap (λ (z : ℤ). axis_bit c.args.decision.now.0 c.args.decision.now.1 z i) (to_z-of_z w16 c.args.cell.re re_fits))
    (λ i k. c.bits-im.ensures.bits i k ∙ ap (λ (z : ℤ). axis_bit c.args.decision.now.0 c.args.decision.now.1 z i) (to_z-of_z w16 c.args.cell.im im_fits)) e l
