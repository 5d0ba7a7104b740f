use Rattle.code_paths.proofs.Grows.{shared_least}
use Rattle.code_paths.proofs.laws.shared_begins_least.Goals as goal

pub returns : goal.returns
returns c = record { law = shared_least }
