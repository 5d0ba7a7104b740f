use Rattle.std.proofs.Common.{[], Bool, refl, sym, subst, arith}
use Rattle.station_core.specs.Meaning.{Meaning}
use Rattle.mode_set.specs.declared.settings.Settings.{Settings}
use Rattle.cmd_base.specs.declared.refusal.Refusal.{Refusal}
use Rattle.cmd_cells.specs.Work.{AreOpen, Written}
use Rattle.cmd_receive.specs.Feeder.{FedStands}
use Rattle.cmd_receive.specs.Working.{FinalGives, writes_at}
use Rattle.tune_in.specs.OfBytes.{rest}
use Rattle.cmd_tune.specs.Tuned.{GivesFinal, at_place}
use Rattle.cmd_tune.specs.Working.{RefusesTuning}
use Rattle.tune_search.specs.Searching.{IsSearching}
use Rattle.tune_search.proofs.Bytes.{rest_fewer, same_symbols}
use Rattle.cmd_tune.proofs.Calls.{does_behind}
use Rattle.cmd_tune.proofs.Places.{stands_behind}
use Rattle.cmd_tune.proofs.Tunings.{behind_ends}
use Rattle.cmd_receive.specs.Working.{ReceiverStands}
use Rattle.cmd_tune.specs.Working.{IsBehindPlace}
use Rattle.cmd_tune.proofs.tuning_work.TuningWorkSymbolWork.finish.Goals as goal

pub finish-requires : goal.finish-requires
finish-requires g c κs =
    let s : Settings = c.args.self.now.settings in
    let two : Bool = c.args.self.now.two in
    let b = c.in-Some.behind in
    let a : Settings = (g.X.ModeReceiver.state b.work.receiver).settings in
    let m : Meaning = g.S.Station.meaning c.args.station.now in
    let go = c.requires.going in
    let st = stands_behind (λ s. IsSearching s c.args.self.now.search.tuner c.args.self.now.search.symbol) (λ b s two found bytes behind. IsBehindPlace (g.X.ModeReceiver.state b.work.receiver).settings b.work.two b.skip (ReceiverStands (FedStands g.X.ModeReceiver.state g.F.Fn b.work.feeder b.work.receiver) (g.X.ModeReceiver.state b.work.receiver).settings b.work.two) s two found bytes behind) s two go.bytes go.given c.args.self.now.behind b c.in-Some.is go.stands.3 in
    let p = st.4 in
    let fewer = rest_fewer s st.0 go.bytes in
    let same = same_symbols a s (rest s go.bytes st.0) p.is_announced.mode_is in (
      (refl, tt),
      (
        record { shared = c.requires.able.shared },
        (
          subst (λ (x : Bool). AreOpen (writes_at x) m) (sym p.two_is) c.requires.open,
          record { bytes = rest s go.bytes st.0; given = st.1; stands = p.is_behind.stands; few = omega (arith, go.few, fewer, same) },
        ),
      ),
    )

pub returns-in-Some-clause-finishes : goal.returns-in-Some-clause-finishes
returns-in-Some-clause-finishes g c = λ bytes before stood gives.
    let m : Meaning = g.S.Station.meaning c.args.station.now in
    let m' : Meaning = g.S.Station.meaning c.finish.new.station in
    let s : Settings = c.args.self.now.settings in
    let two : Bool = c.args.self.now.two in
    let b = c.in-Some.behind in
    let a : Settings = (g.X.ModeReceiver.state b.work.receiver).settings in
    let st = stands_behind (λ s. IsSearching s c.args.self.now.search.tuner c.args.self.now.search.symbol) (λ b s two found bytes behind. IsBehindPlace (g.X.ModeReceiver.state b.work.receiver).settings b.work.two b.skip (ReceiverStands (FedStands g.X.ModeReceiver.state g.F.Fn b.work.feeder b.work.receiver) (g.X.ModeReceiver.state b.work.receiver).settings b.work.two) s two found bytes behind) s two bytes before c.args.self.now.behind b c.in-Some.is stood.3 in
    let p = st.4 in
    does_behind (at_place st.0) (λ (after : Written). Unit {0}) (λ (after : Written). Unit {0}) (FinalGives a b.work.two (rest s bytes st.0)) (GivesFinal s two bytes) (λ (r : Refusal). ⊥) (RefusesTuning s two bytes [] before)
    st.1 before m m' c.finish.result st.5 (λ after u. u) (λ after ends. behind_ends a s two b.work.two st.0 bytes after p.two_is st.3 p.is_announced st.2 ends) (λ r no. absurd no)
    (c.finish.ensures.finishes (rest s bytes st.0) st.1 p.is_behind.stands p.is_behind.gives)
