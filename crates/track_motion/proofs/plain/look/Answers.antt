-- By the changes that are found anew.
use Rattle.track_motion.proofs.plain.look.Goals as goal

pub returns-clause-are : goal.returns-clause-are
returns-clause-are g c = λ symbols h. c.seen_by.ensures.are symbols h (c.changes.ensures.are symbols h)
