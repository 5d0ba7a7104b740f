-- The places so far.
use Rattle.std.proofs.Common.{◌≡◌}
use Rattle.measure_sums.specs.Tables.{AreLittle}
use Rattle.measure_sums.specs.Parts.{sums_to, symbol_of}
use Rattle.measure_sums.proofs.plain.sum_symbol.Given as goal

abbrev pub invariant-loop-q : goal.invariant-loop-q
invariant-loop-q l = record {
  sums : l.sums ≡ sums_to (symbol_of l.settings l.cells l.weights l.l l.labels) l.q;
  little : AreLittle l.sums l.q;
}
