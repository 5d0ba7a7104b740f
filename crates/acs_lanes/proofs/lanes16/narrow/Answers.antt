use Rattle.std.proofs.Common.{arith}
use Rattle.acs_lanes.proofs.Quarters.{quarters_joined, quarters_fit}
use Rattle.acs_lanes.proofs.Laid.{laid_less}
use Rattle.acs_lanes.proofs.lanes16.narrow.Goals as goal

pub invariant_of-result : goal.invariant_of-result
invariant_of-result c = record { lanes = quarters_fit c.narrowed-lanes.result c.part.result c.part-2.result c.part-3.result c.part-4.result c.part.ensures.long c.part-2.ensures.long c.part-3.ensures.long c.part-4.ensures.long c.part.ensures.is c.part-2.ensures.is c.part-3.ensures.is c.part-4.ensures.is c.narrowed-lanes.ensures.few }

pub returns : goal.returns
returns c = record { is = laid_less c.part.result c.part-2.result c.part-3.result c.part-4.result c.args.costs.now c.args.low (λ p l. omega (arith, quarters_joined c.narrowed-lanes.result c.part.result c.part-2.result c.part-3.result c.part-4.result c.part.ensures.long c.part-2.ensures.long c.part-3.ensures.long c.part-4.ensures.long c.part.ensures.is c.part-2.ensures.is c.part-3.ensures.is c.part-4.ensures.is p l, c.narrowed-lanes.ensures.is p l)) }
