-- The pilot as sent, and its weight.
use Rattle.std.proofs.Common.{refl, ◌∙◌, arith, FitsSigned}
use Rattle.std.specs.Int.{w16}
use Rattle.std.proofs.lemmas.Int.{ints, to_z-of_z}
use Rattle.cell_equal.proofs.Quotients.{zero_power, with_weight}
use Rattle.cell_equal.proofs.Pilots.{pilot_divided}
use Rattle.cell_equal.proofs.divide.corrected_pilot.Goals as goal

pub returns-then-n-eq0 : goal.returns-then-n-eq0
returns-then-n-eq0 c = λ cell _ _. zero_power c.args.gain cell c.args.weight _ c.power-n.ensures.is c.if-n-eq0.true

pub returns : goal.returns
returns c = λ cell eu ev.
    let fits : FitsSigned w16 c.sent_pilot-re.result = omega (arith, ints) in
    let sent = to_z-of_z w16 c.sent_pilot-re.result fits ∙ c.sent_pilot-re.ensures in
    with_weight c.args.gain cell _ c.args.weight _ _ c.power-n.ensures.is c.if-n-eq0.false
    (pilot_divided c.args.opposite c.args.gain cell _ _ _ c.requires.span eu ev c.power-n.ensures.is c.if-n-eq0.false sent refl) c.weight_after-after.ensures
