use Rattle.std.proofs.Common.{◌++◌, ℕ, List, Bool, refl, sym, ap, arith}
use Rattle.station_core.specs.Meaning.{Meaning}
use Rattle.station_core.specs.declared.ports.OutPort.TheVariants as outs
use Rattle.mode_set.specs.declared.settings.Settings.{Settings}
use Rattle.receiver.specs.Seen.{ReceiverState}
use Rattle.reception.specs.Streams.{Reception}
use Rattle.reception.specs.Feeds.{Output}
use Rattle.cmd_cells.proofs.Steps.{moved}
use Rattle.cmd_receive.specs.Working.{ReceiverStands, live_at, plain}
use Rattle.cmd_receive.specs.Feeder.{FedStands}
use Rattle.cmd_receive.proofs.Ends.{took_piece}
use Rattle.cmd_receive.proofs.Taking.{kept_feeds, took}
use Rattle.cmd_receive.proofs.reception_work.ReceptionWorkSymbolWork.take.Goals as goal

pub write_out-requires : goal.write_out-requires
write_out-requires g c κs =
    let o = c.requires.open in (
      (refl, tt),
      record {
        hp = o.made outs.Hp refl;
        hp_open = o.opened outs.Hp refl;
        lp = o.made outs.Lp;
        lp_open = o.opened outs.Lp;
        report = record { created = o.report; opened = o.report_open };
      },
    )

pub returns-clause-setup : goal.returns-clause-setup
returns-clause-setup g c = ap (λ (s : Settings). (s, c.args.self.now.two)) (c.requires.going.stands.1.1.feeds _ _ _ _ _ _ c.feeder.ensures).settings

pub returns-clause-takes : goal.returns-clause-takes
returns-clause-takes g c = λ bytes before stood gives none fits.
    let m : Meaning = g.S.Station.meaning c.args.station.now in
    let m' : Meaning = g.S.Station.meaning c.write_out.new.station in
    let s : Settings = (g.T.ModeReceiver.state c.args.self.now.receiver).settings in
    let x' : ReceiverState = g.T.ModeReceiver.state c.feeder.new.arg2 in
    let s' : Settings = x'.settings in
    let two : Bool = c.args.self.now.two in
    let fed = stood.1.1.feeds _ _ _ _ _ _ c.feeder.ensures in
    let stands' : List ℕ → Reception → Type 0 = FedStands g.T.ModeReceiver.state g.F.Fn c.args.self.now.feeder c.feeder.new.arg2 in
    let out : Output = c.feeder.new.arg4 in
    let piece = c.args.piece.now in
    let takes = took s bytes piece stood.0 _ out stands' (omega (arith, none, fits)) (kept_feeds _ _ _ _ _ _ _ _ stood.1.1 (fed.fed bytes stood.0 stood.1.0)) in
    let given = live_at s two (bytes ++ piece) takes.after in
    let standing : ReceiverStands stands' s' two (bytes ++ piece) given =
    moved s' s (λ (x : Settings). ReceiverStands stands' x two (bytes ++ piece) given) (sym fed.settings) (takes.after, takes.stands, takes.live, (λ port. refl)) in
    took_piece plain s two (ReceiverStands stands' s' two) bytes piece stood.0 before stood.3 stands' out takes standing m m' c.write_out.ensures.others c.write_out.result
    c.write_out.ensures.written c.write_out.ensures.kind
