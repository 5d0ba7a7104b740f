use Rattle.tps_bch.proofs.Errors.{are_apart}
use Rattle.tps_bch.proofs.words_are_apart.Goals as goal

pub returns : goal.returns
returns c = are_apart
