use Rattle.std.proofs.Common.{◌≡◌, ◌+◌, ◌*◌, ◌≤◌, drop}
use Rattle.code_paths.specs.Paths.{total}
use Rattle.code_paths.proofs.trial.path_cost.Given as goal

abbrev pub invariant-loop-k : goal.invariant-loop-k
invariant-loop-k l = (l.sum + total (drop l.k l.costs) (drop l.k l.path) ≡ total l.costs l.path) × (l.sum ≤ 8190 * l.k)
