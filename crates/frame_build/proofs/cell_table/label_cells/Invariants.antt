-- The labels so far have the bytes of their cells.
use Rattle.std.proofs.Common.{◌≡◌, ℕ, length, List}
use Rattle.mode_set.specs.declared.modes.Shape.{Shape}
use Rattle.mode_set.specs.declared.modes.Hierarchy.{Hierarchy}
use Rattle.frame_build.specs.State.{IsLabelTable}
use Rattle.frame_build.proofs.cell_table.label_cells.Given as goal

pub record Filled (s : Shape) (h : Hierarchy) (cells : List (List ℕ)) (n : ℕ) : Type 0 where
  pub long : length cells ≡ 72
  pub table : IsLabelTable s h cells n

abbrev pub invariant-loop-label : goal.invariant-loop-label
invariant-loop-label l = Filled l.shape l.hierarchy l.cells l.label
