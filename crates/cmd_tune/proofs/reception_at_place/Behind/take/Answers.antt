use Rattle.std.proofs.Common.{ℕ, Bool, List, ◌++◌, inl, inr, refl, ◌∙◌, sym, ap, subst, arith}
use Rattle.station_core.specs.Meaning.{Meaning}
use Rattle.mode_set.specs.declared.settings.Settings.{Settings}
use Rattle.cmd_cells.specs.Work.{Does, Written}
use Rattle.cmd_receive.specs.Feeder.{FedStands}
use Rattle.cmd_receive.specs.Working.{LiveGives, ReceiverStands}
use Rattle.tune_in.specs.OfBytes.{rest}
use Rattle.cmd_tune.specs.Working.{IsBehind}
use Rattle.cmd_tune.proofs.Behinds.{begun, passed, received}
use Rattle.tune_search.proofs.Bytes.{rest_whole, same_length, same_tail, symbols_grow}
use Rattle.cmd_tune.proofs.reception_at_place.Behind.take.Goals as goal

pub returns-then-self-eq0-clause-takes : goal.returns-then-self-eq0-clause-takes
returns-then-self-eq0-clause-takes g c = λ s found bytes given mode size is whole fits.
    let m : Meaning = g.S.Station.meaning c.args.station.now in
    let m' : Meaning = g.S.Station.meaning c.take.new.station in
    let a : Settings = (g.X.ModeReceiver.state c.args.self.now.work.receiver).settings in
    let a' : Settings = (g.X.ModeReceiver.state c.take.new.self.receiver).settings in
    let two : Bool = c.args.self.now.work.two in
    let two' : Bool = c.take.new.self.two in
    let piece : List ℕ = c.args.piece.now in
    let standing : List ℕ → Written → Type 0 = ReceiverStands (FedStands g.X.ModeReceiver.state g.F.Fn c.args.self.now.work.feeder c.args.self.now.work.receiver) a two in
    let standing' : List ℕ → Written → Type 0 = ReceiverStands (FedStands g.X.ModeReceiver.state g.F.Fn c.take.new.self.feeder c.take.new.self.receiver) a' two' in
    let now : IsBehind standing a s two 0 found bytes given = subst (λ (n : ℕ). IsBehind standing a s two n found bytes given) c.if-self-eq0.true is in
    let reached = begun standing a s two found mode bytes given now in
    let d = received standing a s two found mode c.symbols.ensures.same c.symbols.ensures.next standing' a' two' (ap (λ (p : Settings × Bool). p.0) c.take.ensures.setup) (ap (λ (p : Settings × Bool). p.1) c.take.ensures.setup) bytes piece given m m' c.take.result
    reached (symbols_grow s bytes piece)
    (c.take.ensures.takes (rest s bytes found) given now.stands now.gives (same_tail a s (rest s bytes found) mode ∙ rest_whole s found bytes whole) (let l = same_length a s mode in omega (arith, fits, size, l))) in
    subst (λ (n : ℕ). Does (IsBehind standing' a' s two' n found (bytes ++ piece)) (LiveGives a two (rest s (bytes ++ piece) found)) (λ r. ⊥) given m m' c.take.result) (sym c.if-self-eq0.true) d

pub returns-then-piece-size-clause-takes : goal.returns-then-piece-size-clause-takes
returns-then-piece-size-clause-takes g c = λ s found bytes given mode size is whole fits.
    let m : Meaning = g.S.Station.meaning c.args.station.now in
    let a : Settings = (g.X.ModeReceiver.state c.args.self.now.work.receiver).settings in
    let two : Bool = c.args.self.now.work.two in
    let standing : List ℕ → Written → Type 0 = ReceiverStands (FedStands g.X.ModeReceiver.state g.F.Fn c.args.self.now.work.feeder c.args.self.now.work.receiver) a two in
    passed standing a s two found mode c.symbols.ensures.same c.symbols.ensures.next c.args.self.now.skip _ bytes c.args.piece.now given m whole (omega (arith, fits, size)) (omega (arith, c.if-self-eq0.false))
    (inl (c.if-piece-size.true ∙ size, omega (arith, c.if-self-eq0.false))) is

pub returns-else-piece-size-clause-takes : goal.returns-else-piece-size-clause-takes
returns-else-piece-size-clause-takes g c = λ s found bytes given mode size is whole fits.
    let m : Meaning = g.S.Station.meaning c.args.station.now in
    let a : Settings = (g.X.ModeReceiver.state c.args.self.now.work.receiver).settings in
    let two : Bool = c.args.self.now.work.two in
    let standing : List ℕ → Written → Type 0 = ReceiverStands (FedStands g.X.ModeReceiver.state g.F.Fn c.args.self.now.work.feeder c.args.self.now.work.receiver) a two in
    passed standing a s two found mode c.symbols.ensures.same c.symbols.ensures.next c.args.self.now.skip c.args.self.now.skip bytes c.args.piece.now given m whole (omega (arith, fits, size)) (omega (arith, c.if-self-eq0.false))
    (inr ((λ e. c.if-piece-size.false (e ∙ sym size)), refl)) is
