use Rattle.std.proofs.Common.{◌≡◌, ◌+◌, ◌^◌, ◌<◌, length}
use Rattle.code_paths.specs.Trial.{weight, BestBelow}
use Rattle.code_paths.proofs.trial.search.Given as goal

abbrev pub invariant-loop-k : goal.invariant-loop-k
invariant-loop-k l = record {
  path_long : length l.path ≡ 6 + length l.costs;
  best_long : length l.best ≡ 6 + length l.costs;
  at : l._k < 2 ^ length l.path → weight l.path ≡ l._k;
  best : BestBelow l.start l.end l.costs l._k l.found.0 l.found.1 l.best;
}
