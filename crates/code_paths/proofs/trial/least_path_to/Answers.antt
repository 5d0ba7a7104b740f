use Rattle.std.proofs.Common.{arith}
use Rattle.code_paths.proofs.TryAll.{zeros_taken}
use Rattle.code_paths.proofs.trial.least_path_to.Goals as goal

pub search-requires-clause-zeros : goal.search-requires-clause-zeros
search-requires-clause-zeros c = zeros_taken _ (omega (arith, c.requires.best, c.requires.few))
