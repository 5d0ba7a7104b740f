use Rattle.std.proofs.Common.{ℕ, ◌*◌, Bool, List, ◌++◌, inl, refl, ◌∙◌, sym, ap, subst, arith}
use Rattle.std.proofs.lemmas.List.{append-nil}
use Rattle.station_core.specs.Meaning.{Meaning}
use Rattle.mode_set.specs.declared.settings.Settings.{Settings}
use Rattle.cmd_base.specs.declared.refusal.Refusal.{Refusal}
use Rattle.cmd_cells.specs.Work.{AreOpen, Written, none_written}
use Rattle.cmd_receive.specs.Feeder.{FedStands}
use Rattle.cmd_receive.specs.Working.{LiveGives, ReceiverStands, writes_at}
use Rattle.tune_in.specs.Announced.{IsAnnounced}
use Rattle.tune_in.specs.OfBytes.{rest}
use Rattle.tune_in.specs.declared.frame.Found.{Found}
use Rattle.tune_search.specs.Searching.{IsAtPlace, IsSearching}
use Rattle.cmd_tune.specs.Tuned.{GivesLive, at_place}
use Rattle.cmd_tune.specs.Working.{IsBehind, IsBehindPlace, RefusesTuning, TuningStands}
use Rattle.cmd_tune.proofs.Calls.{does_behind, does_nothing}
use Rattle.cmd_tune.proofs.Places.{behind_stands, searching_stands, stands_behind, stands_searching}
use Rattle.cmd_tune.proofs.Tunings.{behind_gives, tuned}
use Rattle.cmd_tune.proofs.tuning_work.TuningWorkSymbolWork.take.Goals as goal

pub take-requires : goal.take-requires
take-requires g c κs =
    let s : Settings = c.args.self.now.settings in
    let two : Bool = c.args.self.now.two in
    let b = c.in-Some.behind in
    let m : Meaning = g.S.Station.meaning c.args.station.now in
    let go = c.requires.going in
    let st = stands_behind (λ s. IsSearching s c.args.self.now.search.tuner c.args.self.now.search.symbol) (λ b s two found bytes behind. IsBehindPlace (g.X.ModeReceiver.state b.work.receiver).settings b.work.two b.skip (ReceiverStands (FedStands g.X.ModeReceiver.state g.F.Fn b.work.feeder b.work.receiver) (g.X.ModeReceiver.state b.work.receiver).settings b.work.two) s two found bytes behind) s two go.bytes go.given c.args.self.now.behind b c.in-Some.is go.stands.3 in
    let p = st.4 in (
      record { shared = c.requires.able.shared },
      (
        (refl, (refl, tt)),
        (
          record { shared = c.requires.able.shared },
          (subst (λ (x : Bool). AreOpen (writes_at x) m) (sym p.two_is) c.requires.open, (s, st.0, go.bytes, st.1, go.few, p.is_announced.mode_is, p.is_behind)),
        ),
      ),
    )

pub returns-in-Some-clause-takes : goal.returns-in-Some-clause-takes
returns-in-Some-clause-takes g c = λ bytes before stood gives whole fits.
    let m : Meaning = g.S.Station.meaning c.args.station.now in
    let m' : Meaning = g.S.Station.meaning c.take.new.station in
    let s : Settings = c.args.self.now.settings in
    let two : Bool = c.args.self.now.two in
    let piece : List ℕ = c.args.piece.now in
    let b = c.in-Some.behind in
    let b' = c.take.new.self in
    let a : Settings = (g.X.ModeReceiver.state b.work.receiver).settings in
    let a' : Settings = (g.X.ModeReceiver.state b'.work.receiver).settings in
    let st = stands_behind (λ s. IsSearching s c.args.self.now.search.tuner c.args.self.now.search.symbol) (λ b s two found bytes behind. IsBehindPlace (g.X.ModeReceiver.state b.work.receiver).settings b.work.two b.skip (ReceiverStands (FedStands g.X.ModeReceiver.state g.F.Fn b.work.feeder b.work.receiver) (g.X.ModeReceiver.state b.work.receiver).settings b.work.two) s two found bytes behind) s two bytes before c.args.self.now.behind b c.in-Some.is stood.3 in
    let p = st.4 in
    let is_in = c.more_bytes.ensures.stays s bytes piece st.0 st.2 in
    let standing' : List ℕ → Written → Type 0 = ReceiverStands (FedStands g.X.ModeReceiver.state g.F.Fn b'.work.feeder b'.work.receiver) a' b'.work.two in
    does_behind (at_place st.0) (IsBehind standing' a' s b'.work.two b'.skip st.0 (bytes ++ piece)) _ (LiveGives a b.work.two (rest s (bytes ++ piece) st.0)) (GivesLive s two (bytes ++ piece)) (λ (r : Refusal). ⊥) (λ (r : Refusal). (left : List ℕ) → RefusesTuning s two (bytes ++ piece) left before r)
    st.1 before m m' c.take.result st.5
    (λ after is. (
      stood.0,
      stood.1,
      stood.2,
      (
        st.0,
        after,
        is_in,
        st.3,
        record { is_announced = subst (λ (x : Settings). IsAnnounced st.0.word s x) (sym c.take.ensures.settings) p.is_announced; two_is = c.take.ensures.two ∙ p.two_is; is_behind = is },
        (λ port. refl),
      ),
    ))
    (λ after gave. behind_gives a s two b.work.two st.0 (bytes ++ piece) after p.two_is st.3 p.is_announced is_in gave) (λ r no. absurd no)
    (c.take.ensures.takes s st.0 bytes st.1 p.is_announced.mode_is (ap (λ (n : ℕ). 5 * n) c.carriers.ensures) p.is_behind whole (omega (arith, fits, c.carriers.ensures)))

pub take-requires-2 : goal.take-requires-2
take-requires-2 g c =
    let s : Settings = c.args.self.now.settings in
    let two : Bool = c.args.self.now.two in
    let go = c.requires.going in
    let st = stands_searching (λ s. IsSearching s c.args.self.now.search.tuner c.args.self.now.search.symbol) (λ b s two found bytes behind. IsBehindPlace (g.X.ModeReceiver.state b.work.receiver).settings b.work.two b.skip (ReceiverStands (FedStands g.X.ModeReceiver.state g.F.Fn b.work.feeder b.work.receiver) (g.X.ModeReceiver.state b.work.receiver).settings b.work.two) s two found bytes behind) s two go.bytes go.given c.args.self.now.behind c.in_default.is go.stands.3 in
    record { going = (s, go.bytes, go.stands.0, st.0, go.few) }

pub tune-requires : goal.tune-requires
tune-requires g c κs = (record { shared = c.requires.able.shared }, ((refl, (refl, tt)), (c.requires.going.stands.2, (c.requires.going.stands.0 ∙ sym c.requires.going.stands.1, (c.in-Some-take.ensures.place, (c.in-Some-take.ensures.word, (c.requires.open.report, c.requires.open.report_open)))))))

pub returns-in-Some-take-clause-takes : goal.returns-in-Some-take-clause-takes
returns-in-Some-take-clause-takes g c = λ bytes before stood gives whole fits.
    let m : Meaning = g.S.Station.meaning c.args.station.now in
    let m' : Meaning = g.S.Station.meaning c.tune.new.station in
    let s : Settings = c.args.self.now.settings in
    let two : Bool = c.args.self.now.two in
    let piece : List ℕ = c.args.piece.now in
    let found : Found = c.in-Some-take.found in
    let searching = λ (s : Settings). IsSearching s c.args.self.now.search.tuner c.args.self.now.search.symbol in
    let st = stands_searching searching (λ b s two found bytes behind. IsBehindPlace (g.X.ModeReceiver.state b.work.receiver).settings b.work.two b.skip (ReceiverStands (FedStands g.X.ModeReceiver.state g.F.Fn b.work.feeder b.work.receiver) (g.X.ModeReceiver.state b.work.receiver).settings b.work.two) s two found bytes behind) s two bytes before c.args.self.now.behind c.in_default.is stood.3 in
    let at : IsAtPlace s (bytes ++ piece) found = c.in-Some-take.ensures.takes s bytes stood.0 st.0 whole fits in
    let search' = λ (s : Settings). IsSearching s c.tune.new.self.search.tuner c.tune.new.self.search.symbol in
    let behind' = c.tune.new.self.behind in
    tuned c.events.ensures.none c.nothing.ensures.live s two (bytes ++ piece) found at (λ b. (g.X.ModeReceiver.state b.work.receiver).settings) (λ b. FedStands g.X.ModeReceiver.state g.F.Fn b.work.feeder b.work.receiver) (λ b. b.skip) (λ b. b.work.two) behind' _ before m m' c.tune.result st.2
    (λ b is fit place. (
      ap (λ (x : Settings). x.mode) c.tune.ensures.settings ∙ stood.0,
      stood.1,
      rw (c.tune.ensures.feeder) stood.2,
      subst (λ (x : Settings). TuningStands search' (λ b s two found bytes behind. IsBehindPlace (g.X.ModeReceiver.state b.work.receiver).settings b.work.two b.skip (ReceiverStands (FedStands g.X.ModeReceiver.state g.F.Fn b.work.feeder b.work.receiver) (g.X.ModeReceiver.state b.work.receiver).settings b.work.two) s two found bytes behind) x c.tune.new.self.two behind' (bytes ++ piece) (at_place found)) (sym c.tune.ensures.settings)
          (subst (λ (x : Bool). TuningStands search' (λ b s two found bytes behind. IsBehindPlace (g.X.ModeReceiver.state b.work.receiver).settings b.work.two b.skip (ReceiverStands (FedStands g.X.ModeReceiver.state g.F.Fn b.work.feeder b.work.receiver) (g.X.ModeReceiver.state b.work.receiver).settings b.work.two) s two found bytes behind) s x behind' (bytes ++ piece) (at_place found)) (sym c.tune.ensures.two)
          (behind_stands search' (λ b s two found bytes behind. IsBehindPlace (g.X.ModeReceiver.state b.work.receiver).settings b.work.two b.skip (ReceiverStands (FedStands g.X.ModeReceiver.state g.F.Fn b.work.feeder b.work.receiver) (g.X.ModeReceiver.state b.work.receiver).settings b.work.two) s two found bytes behind) s two (bytes ++ piece) (at_place found) behind' b is (found, none_written, at.found_in, fit, place, λ port. sym (append-nil (at_place found port))))),
    ))
    c.tune.ensures.tunes

pub returns-in-None-clause-takes : goal.returns-in-None-clause-takes
returns-in-None-clause-takes g c = λ bytes before stood gives whole fits.
    let m : Meaning = g.S.Station.meaning c.args.station.now in
    let s : Settings = c.args.self.now.settings in
    let two : Bool = c.args.self.now.two in
    let piece : List ℕ = c.args.piece.now in
    let st = stands_searching (λ s. IsSearching s c.args.self.now.search.tuner c.args.self.now.search.symbol) (λ b s two found bytes behind. IsBehindPlace (g.X.ModeReceiver.state b.work.receiver).settings b.work.two b.skip (ReceiverStands (FedStands g.X.ModeReceiver.state g.F.Fn b.work.feeder b.work.receiver) (g.X.ModeReceiver.state b.work.receiver).settings b.work.two) s two found bytes behind) s two bytes before c.args.self.now.behind c.in_default.is stood.3 in
    let now = c.in-None.ensures.takes s bytes stood.0 st.0 whole fits in
    does_nothing _ (GivesLive s two (bytes ++ piece)) (λ (r : Refusal). Unit {0}) before m
    (stood.0, stood.1, stood.2, searching_stands (λ s. IsSearching s c.take-2.new.self.tuner c.take-2.new.self.symbol) (λ b s two found bytes behind. IsBehindPlace (g.X.ModeReceiver.state b.work.receiver).settings b.work.two b.skip (ReceiverStands (FedStands g.X.ModeReceiver.state g.F.Fn b.work.feeder b.work.receiver) (g.X.ModeReceiver.state b.work.receiver).settings b.work.two) s two found bytes behind) s two (bytes ++ piece) before c.args.self.now.behind c.in_default.is now.0 now.1 st.2) (inl (now.1, st.2))
