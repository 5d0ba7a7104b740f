use Rattle.std.proofs.Common.{◌≡◌, ◌≤◌, ◌+◌, drop}
use Rattle.rs204.specs.Codes.{distance}
use Rattle.rs204.proofs.steps.places_apart.Given as goal

abbrev pub invariant-loop-i : goal.invariant-loop-i
invariant-loop-i l = (l.count + distance (drop l.i l.a) (drop l.i l.b) ≡ distance l.a l.b) × (l.count ≤ l.i)
