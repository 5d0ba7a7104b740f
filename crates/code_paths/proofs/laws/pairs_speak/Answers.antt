use Rattle.code_paths.proofs.Shown.{pair_speaks}
use Rattle.code_paths.proofs.laws.pairs_speak.Goals as goal

pub returns : goal.returns
returns c = record { law = pair_speaks }
