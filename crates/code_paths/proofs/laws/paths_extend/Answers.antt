use Rattle.code_paths.proofs.Extend.{paths_extend}
use Rattle.code_paths.proofs.laws.paths_extend.Goals as goal

pub returns : goal.returns
returns c = record { law = paths_extend }
