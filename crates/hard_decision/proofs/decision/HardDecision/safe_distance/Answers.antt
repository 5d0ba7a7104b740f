-- Half of the spacing is below the middles on both sides of a level.
use Rattle.std.proofs.Common.{refl}
use Rattle.hard_decision.proofs.Safe.{safe_few, safe_is}
use Rattle.hard_decision.proofs.decision.HardDecision.safe_distance.Goals as goal

pub returns : goal.returns
returns c = record {
  few = safe_few c.self.inside.shape c.self.inside.hierarchy c.spacing.result c.spacing.ensures.spacing;
  decided = λ label e cell l re im. safe_is c.self.inside.shape c.self.inside.hierarchy c.args.self.now c.spacing.result _ label e cell c.spacing.ensures.spacing refl c.self.view_is l re im;
}
