-- The sum so far, and its size.
use Rattle.std.proofs.Common.{◌≡◌, ℕ, ◌*◌, ◌^◌, ◌≤◌}
use Rattle.std.specs.Prelude.{sum_by}
use Rattle.spec_words.specs.Words.{numbers}
use Rattle.track_arithmetic.specs.Numbers.{power}
use Rattle.track_cells.specs.Gains.{gain_of}
use Rattle.track_cells.proofs.reference_power.total_power.Given as goal

abbrev pub invariant-loop-k : goal.invariant-loop-k
invariant-loop-k l = record {
  is : l.total ≡ sum_by (λ (k : ℕ). power (gain_of l.gains k)) (numbers l.k);
  most : l.total ≤ l.k * 2 ^ 51;
}
