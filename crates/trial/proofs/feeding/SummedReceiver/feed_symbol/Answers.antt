use Rattle.std.proofs.Common.{◌≤◌, ◌+◌, ◌-◌, ◌∙◌, ◌++◌, ℕ, List, length, take, drop, refl, sym, ap, subst, arith, append-nil}
use Rattle.std.proofs.lemmas.List.{take_all, length-take-le}
use Rattle.mode_set.specs.declared.settings.Settings.{Settings}
use Rattle.rand_pcg.specs.Lcg.{Lcg}
use Rattle.reception.specs.Cells.{symbol_length, symbols, tail}
use Rattle.receiver.specs.Seen.{ReceiverState}
use Rattle.trial.specs.Feeding.{HasGiven}
use Rattle.trial.proofs.PieceSteps.{IsFeeding, none_fed, piece_fed, all_fed, part_of_a_symbol, piece_fits, piece_behind}
use Rattle.trial.proofs.feeding.SummedReceiver.feed_symbol.Goals as goal

pub loop-fed-init : goal.loop-fed-init
loop-fed-init g c = record {
  within = omega arith;
  settings = refl;
  going = c.requires.going;
  feeding = none_fed c.args.load.now (length c.args.symbol.now);
  given = λ bytes none h. subst (λ (z : List ℕ). HasGiven c.args.self.now.receiver z c.args.self.now.hp c.args.self.now.lp) (sym (append-nil bytes)) h;
}

pub feed-requires-clause-few : goal.feed-requires-clause-few
feed-requires-clause-few g c =
    let inv = c.loop-fed.invariant in
    let x : ReceiverState = c.args.self.now.receiver in
    let b = c.requires.before in
    let part : List ℕ = take c.loop-fed.fed c.args.symbol.now in
    let now = (inv.given b.bytes b.whole b.given).stands.taken ∙ ap (λ (z : Settings). symbols z (b.bytes ++ part)) inv.settings in
    let before = b.given.stands.taken in
    let same = part_of_a_symbol x.settings b.bytes part b.whole (let size = length-take-le c.loop-fed.fed c.args.symbol.now inv.within in omega (arith, size, c.loop-fed-test.true, c.requires.whole)) in
    omega (arith, now, before, same, c.requires.few)

pub loop-fed-preserved : goal.loop-fed-preserved
loop-fed-preserved g c =
    let inv = c.loop-fed.invariant in
    let fed : ℕ = c.loop-fed.fed in
    let symbol : List ℕ = c.args.symbol.now in
    let piece : ℕ = c.piece-piece.result in
    let more = c.piece-piece.ensures in
    let e = c.feed.ensures in
    record {
      within = omega (arith, inv.within, more.most);
      settings = e.settings ∙ inv.settings;
      going = e.going;
      feeding =
          subst (λ (h : Lcg). IsFeeding c.args.load.now h (fed + piece) (length symbol)) (sym more.next)
          (piece_fed c.draws_add.ensures c.args.load.now c.loop-fed.load fed (length symbol) piece inv.feeding c.loop-fed-test.true more.value);
      given = λ bytes none h.
          let s : Settings = c.args.self.now.receiver.settings in
          let before = inv.given bytes none h in
          let fits = piece_fits s bytes symbol fed piece none c.requires.whole (omega (arith, c.loop-fed-test.true)) (omega (arith, inv.within, more.most)) in
          subst (λ (z : List ℕ). HasGiven c.feed.new.self.receiver z c.feed.new.self.hp c.feed.new.self.lp) (piece_behind bytes symbol fed piece)
          (e.given (bytes ++ take fed symbol) (subst (λ (z : Settings). tail z (bytes ++ take fed symbol) + length (take (fed + piece - fed) (drop fed symbol)) ≤ symbol_length z) (sym inv.settings) fits) before);
    }

pub returns-clause-load : goal.returns-clause-load
returns-clause-load g c = all_fed c.args.load.now c.loop-fed.load c.loop-fed.fed (length c.args.symbol.now) c.loop-fed.invariant.feeding (omega (arith, c.loop-fed-test.false))

pub returns-clause-given : goal.returns-clause-given
returns-clause-given g c = λ bytes none h.
    subst (λ (z : List ℕ). HasGiven c.loop-fed.self.receiver (bytes ++ z) c.loop-fed.self.hp c.loop-fed.self.lp) (take_all c.loop-fed.fed c.args.symbol.now (omega (arith, c.loop-fed-test.false))) (c.loop-fed.invariant.given bytes none h)
