use Rattle.code_paths.proofs.Grows.{reports_once}
use Rattle.code_paths.proofs.laws.reports_once.Goals as goal

pub returns : goal.returns
returns c = record { law = reports_once }
