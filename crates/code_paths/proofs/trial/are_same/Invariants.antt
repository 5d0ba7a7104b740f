use Rattle.std.proofs.Common.{◌≡◌, take}
use Rattle.code_paths.proofs.trial.are_same.Given as goal

abbrev pub invariant-loop-k : goal.invariant-loop-k
invariant-loop-k l = take l.k l.bits ≡ take l.k l.six
