use Rattle.std.proofs.Common.{arith}
use Rattle.measurer.proofs.First.{kept_first, goes_on_first}
use Rattle.measurer.proofs.meter.FrameMeter.new.Goals as goal

pub returns-clause-kept : goal.returns-clause-kept
returns-clause-kept g c =
    kept_first _ c.in_ok-new-2.ensures.reports c.in_ok-new-3.ensures.reports c.first-current.ensures.is c.in_ok-new.ensures.next
    (record { cells = omega arith; muted = omega arith; power = omega arith; error = omega arith; hp = (omega arith, omega arith); lp = (omega arith, omega arith) })

pub returns-clause-goes_on : goal.returns-clause-goes_on
returns-clause-goes_on g c =
    goes_on_first c.standing.ensures.first c.costs.ensures.none c.args.settings.now _ c.in_ok-new.ensures.settings c.in_ok-new.ensures.next c.in_ok-new.ensures.hp c.in_ok-new.ensures.lp
    c.in_ok-new-2.ensures.known c.in_ok-new-3.ensures.known c.first-current.ensures.is c.in_ok-new-2.ensures.stands c.in_ok-new-3.ensures.stands
