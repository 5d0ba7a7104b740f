-- No symbol was taken.
use Rattle.tracker.proofs.Steps.{begins}
use Rattle.tracker.proofs.tracker.Tracker.new.Goals as goal

pub returns-clause-tracks : goal.returns-clause-tracks
returns-clause-tracks g c = begins c.args.settings.now c.in_ok-window.window c.in_ok-ring.ring c.no_changes.result g.M.Carriers.MODE g.M.Carriers.K c.requires.mode g.M.Carriers.k_of c.in_ok-window.ensures.stands c.in_ok-ring.ensures.keeps
