use Rattle.std.proofs.Common.{◌≡◌, length, take}
use Rattle.acs_plain.specs.Spread.{IsSpread}
use Rattle.acs_plain.specs.Steps.{AreSteps}
use Rattle.acs_lanes.proofs.lanes.run_each.Given as goal

abbrev pub invariant-loop-k : goal.invariant-loop-k
invariant-loop-k l = record {
  long : length l.words ≡ length l.pairs;
  spread : IsSpread l.sums;
  steps : AreSteps l.initial.sums (take l.k l.pairs) l.sums (take l.k l.words);
}
