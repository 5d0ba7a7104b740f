use Rattle.puncture.proofs.Paths.{list_is_path}
use Rattle.puncture.proofs.laws.lists_are_paths.Goals as goal

pub returns : goal.returns
returns c = list_is_path
