-- The places so far.
use Rattle.std.proofs.Common.{◌≡◌, ◌≤◌, ◌&&◌, not, false}
use Rattle.std.specs.Prelude.{count_by, slice_index_or}
use Rattle.std.specs.Bool.{beq}
use Rattle.spec_words.specs.Words.{numbers}
use Rattle.bit_interleave.specs.Place.{stream_at}
use Rattle.measure_sums.specs.Comparing.{is_same}
use Rattle.measure_sums.proofs.place.wrong_of.Given as goal

abbrev pub invariant-loop-e : goal.invariant-loop-e
invariant-loop-e l = record {
  is : l.wrong ≡ count_by (λ e. is_same (stream_at l.hierarchy e) l.stream && not (beq (slice_index_or l.hard e false) (slice_index_or l.sent e false))) (numbers l.e);
  few : l.wrong ≤ l.e;
}
