-- The carriers so far are written.
use Rattle.std.proofs.Common.{◌≡◌, ℕ, ◌*◌, List, length, take}
use Rattle.frame_build.specs.State.{bytes_at}
use Rattle.frame_build.proofs.put_cells.put_cells.Given as goal

-- so much is written, and the length stays
pub record Written (to old more : List ℕ) (k : ℕ) : Type 0 where
  pub long : length to ≡ length old
  pub bytes : take (5 * k) to ≡ more

abbrev pub invariant-loop-k : goal.invariant-loop-k
invariant-loop-k g l = Written l.to l.initial.to (bytes_at l.label_cells.cells l.places l.indices l.k) l.k
