use Rattle.std.proofs.Common.{sym, subst}
use Rattle.forney.specs.Delays.{StandsFor, rising}
use Rattle.forney.proofs.plain.Interleaver.step.Goals as goal

pub returns-clause-given : goal.returns-clause-given
returns-clause-given c = λ bytes h. c.step.ensures.given rising bytes (subst (λ d. StandsFor rising d bytes) (sym c.self.view_is) h)

pub returns-clause-stands : goal.returns-clause-stands
returns-clause-stands c = λ bytes h. c.step.ensures.stands rising bytes (subst (λ d. StandsFor rising d bytes) (sym c.self.view_is) h)
