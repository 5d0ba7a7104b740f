-- The cells so far are in eight bytes each.
use Rattle.std.proofs.Common.{◌≡◌, ℕ, length, List}
use Rattle.frame_build.specs.State.{AreWider}
use Rattle.frame_build.proofs.cell_table.widened.Given as goal

pub record Filled (cells wide : List (List ℕ)) (n : ℕ) : Type 0 where
  pub long : length wide ≡ 72
  pub wider : AreWider cells wide n

abbrev pub invariant-loop-place : goal.invariant-loop-place
invariant-loop-place l = Filled l.cells l.wide l.place
