use Rattle.reception.proofs.Reported.{reports_are_steps, new_reports_are_later}
use Rattle.reception.proofs.CostLists.{AreSteps}
use Rattle.reception.proofs.Happened.{next_events, no_events}
use Rattle.reception.proofs.laws.events.Goals as goal

pub returns-clause-steps : goal.returns-clause-steps
returns-clause-steps c = reports_are_steps

pub returns-clause-later : goal.returns-clause-later
returns-clause-later c = new_reports_are_later c.reports_once.ensures.law

pub returns-clause-next : goal.returns-clause-next
returns-clause-next c = let steps : AreSteps = record { none = c.steps.ensures.none; more = c.steps.ensures.next; grow = c.steps.ensures.grow } in next_events steps c.reports_once.ensures.law

pub returns-clause-none : goal.returns-clause-none
returns-clause-none c = no_events
