use Rattle.std.proofs.Common.{length, refl, ap, ◌∙◌, ◌≡◌, List, ℕ}
use Rattle.station_core.specs.Meaning.{Meaning, with_sink, written_sink}
use Rattle.station_core.specs.declared.ports.OutPort.TheVariants.{Report}
use Rattle.cmd_base.specs.Packets.{closing_line}
use Rattle.cmd_packets.proofs.Keeping.{closes_late}
use Rattle.cmd_packets.proofs.steps.finish.Goals as goal

pub returns-in-Err-close-clause-finished : goal.returns-in-Err-close-clause-finished
returns-in-Err-close-clause-finished g c =
    let m : Meaning = g.S.Station.meaning c.args.station.now in
    let line : List ℕ = closing_line c.args.counts in
    let text : c.as_bytes.result.now ≡ line = c.as_bytes.ensures.value ∙ c.as_str.ensures.value ∙ c.closing_line_of-line.ensures.text in
    let written = c.in-Ok.ensures.ok ∙ ap (λ (l : List ℕ). with_sink Report (written_sink m.tells l m.report) m) text in
    let closed = closes_late line m (g.S.Station.meaning c.write.new.self) (g.S.Station.meaning c.close.new.self) written c.in-Err-close.ensures.err in
    (refl, closed.0, length line, closed.1)
