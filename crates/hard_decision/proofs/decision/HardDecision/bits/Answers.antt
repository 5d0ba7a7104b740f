-- The tests of the code are those of the nearest point.
use mir.Val.{to_z, of_z}
use mir.Syntax.{w16}
use Rattle.std.proofs.lemmas.Int.{to_z-of_z}
use Rattle.hard_decision.proofs.Nearest.{code_bits}
use Rattle.hard_decision.proofs.decision.HardDecision.bits.Goals as goal

pub returns : goal.returns
returns c = record {
  bits = λ i l. code_bits c.self.inside.shape c.self.inside.hierarchy c.args.self.now c.args.x (to_z w16 (of_z w16 c.args.x)) c.unsigned_abs.result c.self.inside.outer_below c.self.inside.inner_from c.self.inside.inner_below
      (to_z-of_z w16 c.args.x c.ranges.x) c.unsigned_abs.ensures.value c.self.invariant c.self.view_is i;
}
