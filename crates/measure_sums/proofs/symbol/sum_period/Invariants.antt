-- The places of the period so far.
use Rattle.std.proofs.Common.{◌≡◌, ◌+◌, ◌*◌, ◌≤◌}
use Rattle.mode_set.specs.StreamTable.{payload}
use Rattle.mode_set.specs.declared.settings.Settings.{Settings}
use Rattle.measure_sums.specs.Parts.{sums_to, symbol_of}
use Rattle.measure_sums.specs.Tables.{AreLittle}
use Rattle.measure_sums.proofs.symbol.sum_period.Given as goal

abbrev pub invariant-loop-i : goal.invariant-loop-i
invariant-loop-i l = record {
  sums : (s : Settings) → l.table ≡ (s.shape, s.hierarchy) → 1512 * l.period + 1512 ≤ payload s.mode → l.initial.sums ≡ sums_to (symbol_of s l.cells l.weights l.l l.labels) (1512 * l.period)
      → l.sums ≡ sums_to (symbol_of s l.cells l.weights l.l l.labels) (1512 * l.period + l.i);
  little : AreLittle l.sums (1512 * l.period + l.i);
}
