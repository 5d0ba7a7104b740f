use Rattle.std.proofs.Common.{◌≡◌, map, take, length}
use Rattle.gf256.specs.Field as field
use Rattle.rs204.proofs.steps.powers.Given as goal

abbrev pub invariant-loop-j : goal.invariant-loop-j
invariant-loop-j l = (length l.found ≡ 16) × (length l.places.at ≡ 16) × (take l.j l.found ≡ map field.power (take l.j l.places.at))
