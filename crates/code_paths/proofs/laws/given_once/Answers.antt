use Rattle.code_paths.proofs.Grows.{given_once}
use Rattle.code_paths.proofs.laws.given_once.Goals as goal

pub returns : goal.returns
returns c = record { law = given_once }
