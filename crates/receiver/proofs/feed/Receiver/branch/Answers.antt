use Rattle.std.proofs.Common.{◌∙◌, ap}
use Rattle.mode_set.specs.declared.modes.Stream.TheVariants.{Hp, Lp}
use Rattle.receiver.specs.Seen.{ReceiverState}
use Rattle.receiver.proofs.feed.Receiver.branch.Goals as goal

pub returns-in-Hp-clause-loaded : goal.returns-in-Hp-clause-loaded
returns-in-Hp-clause-loaded g c = λ m b r h. ap (λ (z : ReceiverState). z.hp.branch.loaded) c.self.view_is ∙ (h.streams Hp).loaded

pub returns-in-Lp-clause-loaded : goal.returns-in-Lp-clause-loaded
returns-in-Lp-clause-loaded g c = λ m b r h. ap (λ (z : ReceiverState). z.lp.branch.loaded) c.self.view_is ∙ (h.streams Lp).loaded
