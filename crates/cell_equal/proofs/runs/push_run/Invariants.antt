-- The carriers from the first one on are appended, and the span is that of the next.
use Rattle.std.proofs.Common.{◌≡◌, ℕ, ◌+◌, ◌-◌, ◌*◌, ◌<◌, ◌≤◌, ◌++◌, List, vec_len, vec_capacity}
use Rattle.mode_set.specs.StreamTable.{carriers}
use Rattle.mode_set.specs.declared.modes.Mode.{Mode}
use Rattle.qam_map.specs.declared.cell.Cell.{Cell}
use Rattle.cell_equal.specs.State.{IsAround, first_bytes}
use Rattle.cell_equal.specs.Equal.{between}
use Rattle.cell_equal.specs.declared.gain.Gain.{Gain}
use Rattle.cell_equal.specs.declared.span.Span.{Span}
use Rattle.cell_equal.proofs.runs.push_run.Given as goal

pub record IsOnTheWay (m : Mode) (l : ℕ) (cells : List Cell) (weights : List ℕ) (from k right : ℕ) (s : Span) (g : Gain) (old new : List ℕ) (old_len len old_capacity capacity : ℕ) : Type 0 where
  pub forward : from ≤ k
  pub before : k ≤ s.right
  pub end : right ≡ s.right
  pub within : s.right < carriers m
  pub span : IsAround m l cells k s
  pub gain : from < s.right → g ≡ between s.at_left s.at_right (k - s.left) (s.right - k)
  pub bytes : (start : List ℕ) → old ≡ start ++ first_bytes m l cells weights from → new ≡ start ++ first_bytes m l cells weights k
  pub long : len + 5 * from ≡ old_len + 5 * k
  pub room : capacity ≡ old_capacity

abbrev pub invariant-loop-k : goal.invariant-loop-k
invariant-loop-k l = IsOnTheWay l.fn.mode l.fn.l l.fn.cells l.fn.weights l.fn.from l.k l.right l.span l.gain l.initial.to.items l.to.items (vec_len l.initial.to) (vec_len l.to) (vec_capacity l.initial.to) (vec_capacity l.to)
