use Rattle.code_paths.proofs.Grows.{given_begins_ended}
use Rattle.code_paths.proofs.laws.given_begins_ended.Goals as goal

pub returns : goal.returns
returns c = record { law = given_begins_ended }
