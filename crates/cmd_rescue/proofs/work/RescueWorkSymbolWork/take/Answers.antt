use Rattle.std.proofs.Common.{◌++◌, Bool, refl, sym, arith}
use Rattle.station_core.specs.Meaning.{Meaning}
use Rattle.station_core.specs.declared.ports.OutPort.TheVariants as outs
use Rattle.mode_set.specs.declared.settings.Settings.{Settings}
use Rattle.reception.specs.Streams.{so_far}
use Rattle.reception.specs.Feeds.{Output}
use Rattle.rescue.specs.Standing.{StandsFor}
use Rattle.cmd_cells.proofs.Steps.{moved}
use Rattle.cmd_receive.specs.Kinds.{live_of}
use Rattle.cmd_receive.proofs.Ends.{took_piece}
use Rattle.cmd_rescue.specs.Working.{RescueStands, rescuing}
use Rattle.cmd_rescue.proofs.Rescuing.{took}
use Rattle.cmd_rescue.proofs.work.RescueWorkSymbolWork.take.Goals as goal

pub write_out-requires : goal.write_out-requires
write_out-requires g c κs =
    let o = c.requires.open in (
      (refl, tt),
      record {
        hp = o.made outs.Hp refl;
        hp_open = o.opened outs.Hp refl;
        lp = o.made outs.Lp;
        lp_open = o.opened outs.Lp;
        report = record { created = o.report; opened = o.report_open };
      },
    )

pub returns-clause-takes : goal.returns-clause-takes
returns-clause-takes g c = λ bytes before stood gives none fits.
    let m : Meaning = g.S.Station.meaning c.args.station.now in
    let m' : Meaning = g.S.Station.meaning c.write_out.new.station in
    let s : Settings = c.args.self.now.receiver.settings in
    let s' : Settings = c.feed.new.self.settings in
    let two : Bool = c.args.self.now.two in
    let stands' = StandsFor so_far c.feed.new.self in
    let out : Output = c.feed.new.out in
    let piece = c.args.piece.now in
    let takes = took s bytes piece stood.0 c.feed.result out stands' (omega (arith, none, fits)) (c.feed.ensures.fed bytes stood.0 stood.1) in
    let given = live_of rescuing s two (bytes ++ piece) takes.after in
    let standing : RescueStands stands' s' two (bytes ++ piece) given =
    moved s' s (λ (x : Settings). RescueStands stands' x two (bytes ++ piece) given) (sym c.feed.ensures.settings) (takes.after, takes.stands, takes.live, (λ port. refl)) in
    took_piece rescuing s two (RescueStands stands' s' two) bytes piece stood.0 before stood.3 stands' out takes standing m m' c.write_out.ensures.others c.write_out.result c.write_out.ensures.written c.write_out.ensures.kind
