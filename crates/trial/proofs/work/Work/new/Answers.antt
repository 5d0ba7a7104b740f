use Rattle.modulator.specs.State.{Transmitter}
use Rattle.receiver.specs.Seen.{ReceiverState}
use Rattle.trial.proofs.SymbolSteps.{first_before}
use Rattle.trial.proofs.work.Work.new.Goals as goal

pub returns-clause-first : goal.returns-clause-first
returns-clause-first g c =
    let t : Transmitter = c.in_ok-new.field-0 in
    let x : ReceiverState = c.in_ok-new-2.field-0.receiver in
    first_before c.packets.ensures.none c.cells.ensures.long c.args.settings.now c.args.number c.start.result t x c.in_ok-new-2.field-0.hp c.in_ok-new-2.field-0.lp c.start.ensures
    c.in_ok-new.ensures.settings c.in_ok-new.ensures.made c.in_ok-new.ensures.hp c.in_ok-new.ensures.lp c.in_ok-new.ensures.put c.in_ok-new-2.ensures.settings c.in_ok-new-2.ensures.given
