use Rattle.std.proofs.Common.{◌≡◌, ◌<◌, ◌≤◌, ℕ, get_or, length}
use Rattle.std.specs.Prelude.{bit_xor}
use Rattle.gf256.specs.Field as field
use Rattle.rs204.proofs.steps.add_multiple.Given as goal

abbrev pub invariant-loop-j : goal.invariant-loop-j
invariant-loop-j l =
    (length l.to ≡ 9)
    × (length l.fn.to ≡ 9)
    × (length l.other ≡ 9)
    × ((k : ℕ) → k < l.j → get_or l.to k 0 ≡ bit_xor (get_or l.fn.to k 0) (field.mul l.factor (get_or l.other k 0)))
    × ((k : ℕ) → l.j ≤ k → get_or l.to k 0 ≡ get_or l.fn.to k 0)
