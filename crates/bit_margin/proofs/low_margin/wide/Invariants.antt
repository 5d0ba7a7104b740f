use Rattle.std.proofs.Common.{◌≡◌, ◌<◌, ℕ, length}
use Rattle.std.specs.Prelude.{slice_index}
use Rattle.bit_margin.proofs.low_margin.wide.Given as goal

abbrev pub invariant-loop-n : goal.invariant-loop-n
invariant-loop-n l = record {
  size : length l.wide ≡ 64;
  is : (k : ℕ) → k < l.n → slice_index l.wide k ≡ slice_index l.fn.sums k;
}
