use Rattle.std.proofs.Common.{◌≡◌, ◌+◌, ◌<◌, ℕ, get_or, take, length}
use Rattle.std.specs.Prelude.{slice_index}
use Rattle.rs_erasure.specs.Locating.{lowered}
use Rattle.rs_erasure.proofs.locate.modified_syndromes.Given as goal

abbrev pub invariant-loop-power : goal.invariant-loop-power
invariant-loop-power l = record {
  size : length l.left ≡ 16;
  done : (i : ℕ) → i + l.power-index < 16 → get_or l.left i 0 ≡ lowered (take l.power-index l.powers) (λ k. slice_index l.values k) i;
}
