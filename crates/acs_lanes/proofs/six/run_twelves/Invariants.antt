use Rattle.std.proofs.Common.{◌≡◌, ◌<◌, ◌≤◌, ◌*◌, ◌/◌, ◌%◌, ℕ, List, length, map, take}
use Rattle.std.specs.Prelude.{slice_index}
use Rattle.acs_plain.specs.Spread.{IsSpread}
use Rattle.acs_plain.specs.Steps.{AreSteps}
use Rattle.acs_lanes.specs.Lanes16.{all_with, laid}
use Rattle.acs_lanes.specs.Phases.{in_order, sum_word}
use Rattle.acs_lanes.proofs.six.run_twelves.Given as goal

abbrev pub invariant-loop-k : goal.invariant-loop-k
invariant-loop-k l = record {
  few : l.k ≤ 2 * (length l.pairs / 12);
  long : length l.words ≡ length l.pairs;
  spread : IsSpread (all_with (laid l.lanes.a l.lanes.b l.lanes.c l.lanes.d));
  sums : (i : ℕ) → 6 * l.k ≤ i → i < 4 * (length l.pairs / 4) → slice_index l.words i ≡ slice_index (map sum_word l.pairs) i;
  steps : (words : List ℕ) → length words ≡ length l.pairs → ((i : ℕ) → i < 6 * l.k → slice_index words i ≡ in_order (i % 6) (slice_index l.words i))
      → AreSteps (all_with (laid l.fn.from.a l.fn.from.b l.fn.from.c l.fn.from.d)) (take (6 * l.k) l.pairs) (all_with (laid l.lanes.a l.lanes.b l.lanes.c l.lanes.d)) (take (6 * l.k) words);
}
