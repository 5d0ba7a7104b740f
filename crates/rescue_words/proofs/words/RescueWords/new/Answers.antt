use Rattle.rescue_words.proofs.Finishing.{nothing_stands}
use Rattle.rescue_words.proofs.words.RescueWords.new.Goals as goal

pub returns-clause-stands : goal.returns-clause-stands
returns-clause-stands c = nothing_stands _ c.in_ok-new.ensures.empty c.in_ok-new.ensures.phase c.in_ok-new-2.ensures.empty c.no_counts.ensures.none
