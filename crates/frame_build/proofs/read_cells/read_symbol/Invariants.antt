-- The cells so far are read, and their weights.
use Rattle.std.proofs.Common.{◌≡◌, length}
use Rattle.frame_build.specs.Reading.{AreReadTo}
use Rattle.frame_build.proofs.read_cells.read_symbol.Given as goal

abbrev pub invariant-loop-k : goal.invariant-loop-k
invariant-loop-k l = record {
  many : length l.cells ≡ length l.initial.cells;
  as_many : length l.weights ≡ length l.initial.cells;
  read : AreReadTo l.bytes l.cells l.weights l.k;
}
