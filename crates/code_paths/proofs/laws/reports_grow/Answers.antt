use Rattle.code_paths.proofs.Grows.{reports_grow}
use Rattle.code_paths.proofs.laws.reports_grow.Goals as goal

pub returns : goal.returns
returns c = record { law = reports_grow }
