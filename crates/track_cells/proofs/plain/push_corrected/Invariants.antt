-- The carriers so far are appended.
use Rattle.std.proofs.Common.{◌≡◌, ◌+◌, ◌*◌, ◌++◌, vec_len, vec_capacity}
use Rattle.track_cells.specs.Gains.{corrected_bytes}
use Rattle.track_cells.proofs.plain.push_corrected.Given as goal

abbrev pub invariant-loop-k : goal.invariant-loop-k
invariant-loop-k l = record {
  bytes : l.to.items ≡ l.initial.to.items ++ corrected_bytes l.full l.gains l.cells l.weights l.k;
  long : vec_len l.to ≡ vec_len l.initial.to + 5 * l.k;
  room : vec_capacity l.to ≡ vec_capacity l.initial.to;
}
