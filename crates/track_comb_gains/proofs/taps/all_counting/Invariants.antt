-- The distances so far have theirs.
use Rattle.std.proofs.Common.{◌≡◌, ℕ, ◌<◌, length, get_or, true}
use Rattle.tracking.specs.Comb.{Comb}
use Rattle.tracking.specs.InTime.{counting, place}
use Rattle.track_motion.specs.Around.{IsAround, IsLook}
use Rattle.track_motion.specs.Places.{in_file}
use Rattle.track_comb_gains.specs.Kept.{has, places_of}
use Rattle.track_comb_gains.proofs.taps.all_counting.Given as goal

abbrev pub invariant-loop-d : goal.invariant-loop-d
invariant-loop-d l = record {
  long : length l.counts ≡ 4;
  is : (k : ℕ) → k < l.d → (c : Comb) (m : ℕ) → IsAround c m l.around → counting c m k ≡ places_of k (get_or l.counts k 0);
  there : (k : ℕ) → k < l.d → (count m i : ℕ) → IsLook count m l.around → i < 4 → has (get_or l.counts k 0) i ≡ true → in_file count m (place k i) ≡ true;
  few : (k : ℕ) → k < l.d → get_or l.counts k 0 < 16;
}
