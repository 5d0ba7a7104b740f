use Rattle.std.proofs.Common.{sym, subst}
use Rattle.survivor_ring.specs.Survivors.{IsPushed}
use Rattle.survivor_ring.specs.Ring.{trace}
use Rattle.survivor_ring.proofs.Walks.{still_some, traces_pushed}
use Rattle.survivor_ring.proofs.ring.RingSurvivorsSurvivors.push.Goals as goal

pub invariant_of-self-clause-some : goal.invariant_of-self-clause-some
invariant_of-self-clause-some g c = still_some c.args.self.now.states c.args.decisions c.args.alive c.args.self.now.some c.args.self.now.fits c.requires.follows

pub returns-clause-list : goal.returns-clause-list
returns-clause-list g c = subst (λ z. IsPushed (trace c.args.self.now.words.items) c.args.decisions c.args.alive (trace z)) (sym c.push_word.ensures.items) (traces_pushed c.args.self.now.words.items c.args.decisions c.args.alive)
