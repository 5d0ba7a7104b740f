-- The carriers so far are written, and the span is that of the last of them.
use Rattle.std.proofs.Common.{◌≡◌, ℕ, ◌+◌, ◌-◌, ◌*◌, ◌≤◌, length, take, List}
use Rattle.mode_set.specs.StreamTable.{carriers}
use Rattle.mode_set.specs.declared.modes.Mode.{Mode}
use Rattle.qam_map.specs.declared.cell.Cell.{Cell}
use Rattle.cell_equal.specs.State.{IsAround, first_bytes}
use Rattle.cell_equal.specs.declared.span.Span.{Span}
use Rattle.cell_equal.proofs.symbol.equalise_into.Given as goal

pub record IsDone (m : Mode) (l : ℕ) (cells : List Cell) (weights : List ℕ) (k : ℕ) (s : Span) (old new : List ℕ) : Type 0 where
  pub within : k ≤ carriers m
  pub span : IsAround m l cells (k - 1) s
  pub bytes : take (5 * k) new ≡ first_bytes m l cells weights k
  pub long : length new ≡ length old

abbrev pub invariant-runs : goal.invariant-runs
invariant-runs l = IsDone l.mode l.l l.cells l.weights l.next l.span l.initial.to l.to

abbrev pub decreases-runs : goal.decreases-runs
decreases-runs l = carriers l.mode - l.next
