use Rattle.std.proofs.Common.{◌≡◌, ◌<◌, ◌≤◌, ◌*◌, ◌/◌, ◌%◌, ℕ, length}
use Rattle.std.specs.Prelude.{slice_index}
use Rattle.acs_lanes.specs.Phases.{in_order}
use Rattle.acs_lanes.proofs.word_order.order_words.Given as goal

abbrev pub invariant-loop-k : goal.invariant-loop-k
invariant-loop-k l = record {
  few : l.k ≤ length l.fn.words / 12;
  long : length l.words ≡ length l.fn.words;
  kept : (i : ℕ) → 12 * l.k ≤ i → slice_index l.words i ≡ slice_index l.fn.words i;
  ordered : (i : ℕ) → i < 12 * l.k → slice_index l.words i ≡ in_order (i % 6) (slice_index l.fn.words i);
}
