use Rattle.std.proofs.Common.{◌∙◌, ap}
use Rattle.station_core.specs.Meaning.{Meaning}
use Rattle.cmd_base.specs.declared.refusal.Refusal.{Refusal}
use Rattle.cmd_base.proofs.HandedOn.{handed_on}
use Rattle.modulator.specs.State.{HasPut}
use Rattle.cmd_modulate.specs.ModulateCommand.{inputs_of}
use Rattle.cmd_modulate.specs.Seen.{Seen, seen_of}
use Rattle.cmd_modulate.specs.Work.{Sends}
use Rattle.cmd_modulate.proofs.Sending.{ends_before, still_due, still_written, sends_on}
use Rattle.cmd_modulate.proofs.symbols.next_symbol.Goals as goal

pub returns-clause-sends : goal.returns-clause-sends
returns-clause-sends g c = λ t files due written.
    let m : Meaning = g.S.Station.meaning c.args.station.now in
    let m' : Meaning = g.S.Station.meaning c.put_wanted.new.station in
    let m'' : Meaning = g.S.Station.meaning c.send_symbol.new.station in
    let seen : Seen = seen_of c.args.tx.now in
    let seen' : Seen = seen_of c.put_wanted.new.tx in
    let seen'' : Seen = seen_of c.send_symbol.new.tx in
    let e = c.in_ok-put_wanted.ensures in
    let tells = ap (λ (x : Meaning). x.tells) e.others in
    let work = e.works t files due written.work in
    sends_on c.work.ensures.sends c.work.ensures.so_far c.symbols.ensures.next c.symbols.ensures.part c.args.limit files seen' seen'' m' m''
    c.put_wanted.new.inputs (HasPut c.put_wanted.new.tx) (HasPut c.send_symbol.new.tx) e.suffices
    (still_due files seen seen' e.settings e.made due) work (still_written files seen seen' m m' e.settings e.made e.others written.written)
    c.send_symbol.ensures.seen c.send_symbol.ensures.others (c.send_symbol.ensures.stands (inputs_of files) work.stands)
    c.send_symbol.result (c.send_symbol.ensures.written (tells ∙ t) (inputs_of files) work.stands)

pub returns-in_err-put_wanted-clause-sends : goal.returns-in_err-put_wanted-clause-sends
returns-in_err-put_wanted-clause-sends g c = λ t files due written.
    let m : Meaning = g.S.Station.meaning c.args.station.now in
    let m' : Meaning = g.S.Station.meaning c.put_wanted.new.station in
    let seen : Seen = seen_of c.args.tx.now in
    let seen' : Seen = seen_of c.put_wanted.new.tx in
    let e = c.in_err-put_wanted.ensures in
    let refusal : Refusal = c.in_err-put_wanted.field-0.0 in
    let stops = e.works t files due written.work in
    handed_on c.from_residual.result refusal (Sends c.args.limit files m' c.put_wanted.new.inputs seen' (HasPut c.put_wanted.new.tx)) c.from_residual.ensures.1
    (ends_before c.args.limit files seen' m' (still_written files seen seen' m m' e.settings e.made e.others written.written) refusal stops.0, stops.1)
