use Rattle.survivor_ring.proofs.AllAlive.{traces_extended}
use Rattle.survivor_ring.proofs.ring.RingSurvivorsSurvivors.push_all.Goals as goal

pub returns-clause-list : goal.returns-clause-list
returns-clause-list g c = traces_extended c.args.self.now.words.items c.args.decisions.now c.push_words.new.words.items c.push_words.ensures.items
