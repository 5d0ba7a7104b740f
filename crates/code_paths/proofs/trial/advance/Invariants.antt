use Rattle.std.proofs.Common.{◌≡◌, ◌+◌, ◌^◌}
use Rattle.code_paths.specs.Trial.{weight}
use Rattle.code_paths.proofs.trial.advance.Given as goal

abbrev pub invariant-loop-k : goal.invariant-loop-k
invariant-loop-k l = weight l.path + 2 ^ l.k ≡ weight l.fn.path + 1
