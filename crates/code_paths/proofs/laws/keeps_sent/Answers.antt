use Rattle.code_paths.proofs.Sent.{keeps_sent}
use Rattle.code_paths.proofs.laws.keeps_sent.Goals as goal

pub returns : goal.returns
returns c = record { law = keeps_sent }
