use Rattle.code_paths.proofs.Grows.{ended_once}
use Rattle.code_paths.proofs.laws.ended_once.Goals as goal

pub returns : goal.returns
returns c = record { law = ended_once }
