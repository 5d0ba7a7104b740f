-- The places so far.
use Rattle.std.proofs.Common.{◌≡◌, ◌≤◌}
use Rattle.std.specs.Prelude.{count_by}
use Rattle.spec_words.specs.Words.{numbers}
use Rattle.bit_interleave.specs.Place.{stream_at}
use Rattle.measure_sums.specs.Comparing.{is_same}
use Rattle.measure_sums.proofs.place.bits_of.Given as goal

abbrev pub invariant-loop-e : goal.invariant-loop-e
invariant-loop-e l = record {
  is : l.bits ≡ count_by (λ e. is_same (stream_at l.hierarchy e) l.stream) (numbers l.e);
  few : l.bits ≤ l.e;
}
