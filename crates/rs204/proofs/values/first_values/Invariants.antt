use Rattle.std.proofs.Common.{◌≤◌, take}
use Rattle.rs204.specs.Division.{Holds}
use Rattle.rs204.proofs.PlaceValues.{values_from}
use Rattle.rs204.proofs.values.first_values.Given as goal

abbrev pub invariant-loop-j : goal.invariant-loop-j
invariant-loop-j l = (l.j ≤ l.count) × Holds l.sum (values_from (take l.j l.terms) 0 16)
