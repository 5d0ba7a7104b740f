use Rattle.code_paths.proofs.Grows.{given_grows}
use Rattle.code_paths.proofs.laws.given_grows.Goals as goal

pub returns : goal.returns
returns c = record { law = given_grows }
