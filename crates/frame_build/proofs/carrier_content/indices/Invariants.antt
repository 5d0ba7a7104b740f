-- The carriers so far have their indices.
use Rattle.std.proofs.Common.{◌≡◌, ℕ, length, List}
use Rattle.mode_set.specs.declared.modes.Mode.{Mode}
use Rattle.frame_build.specs.State.{AreIndices}
use Rattle.frame_build.proofs.carrier_content.indices.Given as goal

pub record Filled (m : Mode) (l : ℕ) (list : List ℕ) (n : ℕ) : Type 0 where
  pub long : length list ≡ 6817
  pub indices : AreIndices m l list n

abbrev pub invariant-loop-k : goal.invariant-loop-k
invariant-loop-k g l = Filled g.M.Carriers.MODE l.l l.indices l.k
