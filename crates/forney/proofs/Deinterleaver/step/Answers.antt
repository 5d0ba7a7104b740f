use Rattle.std.proofs.Common.{sym, subst}
use Rattle.forney.specs.Delays.{StandsFor, falling}
use Rattle.forney.proofs.Deinterleaver.step.Goals as goal

pub returns-clause-given : goal.returns-clause-given
returns-clause-given c = λ bytes h. c.step.ensures.given falling bytes (subst (λ d. StandsFor falling d bytes) (sym c.self.view_is) h)

pub returns-clause-stands : goal.returns-clause-stands
returns-clause-stands c = λ bytes h. c.step.ensures.stands falling bytes (subst (λ d. StandsFor falling d bytes) (sym c.self.view_is) h)
