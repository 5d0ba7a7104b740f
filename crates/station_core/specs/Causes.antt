-- When a count of faults shows that an outside call has failed.
use Rattle.std.specs.Prelude.{ℕ, ◌+◌, ◌-◌, ◌^◌, ◌≤◌, min}

-- the greatest number that a count of faults can hold
abbrev pub greatest_count : ℕ
greatest_count = 2 ^ 64 - 1

-- A count that never falls has risen between two moments, or is at its greatest number.
abbrev pub Rose : ℕ → ℕ → Type 0
Rose before now = min (before + 1) (2 ^ 64 - 1) ≤ now
