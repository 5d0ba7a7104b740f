use Rattle.std.proofs.Common.{◌≡◌, length, take}
use Rattle.acs_plain.specs.declared.sums.Sums.{Sums}
use Rattle.acs_plain.specs.Spread.{IsSpread}
use Rattle.acs_plain.specs.Steps.{AreSteps}
use Rattle.acs_lanes.specs.Lanes16.{all_with, laid}
use Rattle.acs_lanes.proofs.slices.run_rest.Given as goal

abbrev pub invariant-loop-k : goal.invariant-loop-k
invariant-loop-k l = record {
  long : length l.words ≡ length l.pairs;
  spread : IsSpread (all_with (laid l.lanes.a l.lanes.b l.lanes.c l.lanes.d));
  steps : (start : Sums) → AreSteps start (take l.fn.at l.pairs) (all_with (laid l.fn.from.a l.fn.from.b l.fn.from.c l.fn.from.d)) (take l.fn.at l.fn.words) → AreSteps start (take l.k l.pairs) (all_with (laid l.lanes.a l.lanes.b l.lanes.c l.lanes.d)) (take l.k l.words);
}
