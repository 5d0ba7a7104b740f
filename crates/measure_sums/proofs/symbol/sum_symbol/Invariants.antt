-- The periods so far.
use Rattle.std.proofs.Common.{◌≡◌, ◌*◌}
use Rattle.measure_sums.specs.Parts.{sums_to, symbol_of}
use Rattle.measure_sums.specs.Tables.{AreLittle}
use Rattle.measure_sums.proofs.symbol.sum_symbol.Given as goal

abbrev pub invariant-loop-period : goal.invariant-loop-period
invariant-loop-period l = record {
  sums : l.sums ≡ sums_to (symbol_of l.settings l.cells l.weights l.l l.labels) (1512 * l.period);
  little : AreLittle l.sums (1512 * l.period);
}
