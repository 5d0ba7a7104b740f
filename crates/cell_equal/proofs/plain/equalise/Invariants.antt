-- The carriers so far are appended, and the span is that of the last of them.
use Rattle.std.proofs.Common.{◌≡◌, ℕ, ◌+◌, ◌-◌, ◌*◌, ◌++◌, List, vec_len, vec_capacity}
use Rattle.mode_set.specs.declared.modes.Mode.{Mode}
use Rattle.qam_map.specs.declared.cell.Cell.{Cell}
use Rattle.cell_equal.specs.State.{IsAround, first_bytes}
use Rattle.cell_equal.specs.declared.span.Span.{Span}
use Rattle.cell_equal.proofs.plain.equalise.Given as goal

pub record IsDone (m : Mode) (l : ℕ) (cells : List Cell) (weights : List ℕ) (k : ℕ) (s : Span) (old new : List ℕ) (old_len len old_capacity capacity : ℕ) : Type 0 where
  pub span : IsAround m l cells (k - 1) s
  pub bytes : new ≡ old ++ first_bytes m l cells weights k
  pub long : len ≡ old_len + 5 * k
  pub room : capacity ≡ old_capacity

abbrev pub invariant-loop-k : goal.invariant-loop-k
invariant-loop-k l = IsDone l.mode l.l l.cells l.weights l.k l.span l.initial.to.items l.to.items (vec_len l.initial.to) (vec_len l.to) (vec_capacity l.initial.to) (vec_capacity l.to)
