use Rattle.rescue_words.proofs.Finishing.{all_rescued}
use Rattle.rescue_words.proofs.laws.receiving.Goals as goal

pub returns : goal.returns
returns c = record { all = all_rescued }
