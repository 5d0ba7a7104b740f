use Rattle.std.proofs.Common.{◌≡◌, ◌≤◌, take, length}
use Rattle.rs204.specs.Decoding.{chosen, is_root}
use Rattle.rs204.proofs.steps.find_places.Given as goal

abbrev pub invariant-loop-k : goal.invariant-loop-k
invariant-loop-k l = (length l.found.at ≡ 16) × (l.found.count ≤ 16) × (take l.found.count l.found.at ≡ chosen (is_root l.polynomial) l.k)
