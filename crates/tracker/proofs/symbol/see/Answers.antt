-- The means follow what is seen.
use Rattle.tracker.proofs.symbol.see.Goals as goal

pub returns-clause-means : goal.returns-clause-means
returns-clause-means g c = λ symbols h keeps are. c.follow-after.ensures.are symbols h (c.look_by-around.ensures.are symbols h keeps) are
