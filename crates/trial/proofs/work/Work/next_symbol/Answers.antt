use Rattle.std.proofs.Common.{◌≡◌, ◌<◌, ◌+◌, ◌-◌, ◌∙◌, ℕ, List, ◌++◌, length, sym, ap, ap₂, subst, arith}
use Rattle.std.specs.Prelude.{sum, ◌%◌, ◌^◌}
use Rattle.mode_set.specs.StreamTable.{carriers}
use Rattle.mode_set.specs.declared.settings.Settings.{Settings}
use Rattle.rand_pcg.specs.Lcg.{Lcg}
use Rattle.load_gen.specs.Draws.{after}
use Rattle.transmission.specs.Transmission.{Inputs, tx_symbol}
use Rattle.modulator.specs.State.{Transmitter, HasPut}
use Rattle.reception.specs.Cells.{symbol_length, tail}
use Rattle.receiver.specs.Seen.{ReceiverState}
use Rattle.trial.specs.Drawn.{hp_count, lp_count, drawn, pieces, pieces_from, before, trial_symbols}
use Rattle.trial.specs.Fed.{fed_symbol}
use Rattle.trial.specs.declared.draws.Draws.{Draws}
use Rattle.trial.specs.Putting.{IsPutting}
use Rattle.trial.specs.Feeding.{HasGiven, HasWhole}
use Rattle.trial.specs.State.{first_fed}
use Rattle.trial.proofs.PacketSteps.{are_put, seen_again}
use Rattle.trial.proofs.SymbolSteps.{begins, next_before, no_tail}
use Rattle.trial.proofs.work.Work.next_symbol.Goals as goal

pub put_wanted-requires-clause-within : goal.put_wanted-requires-clause-within
put_wanted-requires-clause-within g c =
    let b = c.requires.before in
    subst (λ (z : Settings). c.args.self.now.tx.made < trial_symbols z c.args.self.now.draws.number) (sym b.settings) (subst (λ (n : ℕ). n < trial_symbols c.args.settings.now c.args.self.now.draws.number) (sym b.made) c.requires.within)

pub put_wanted-requires-clause-putting : goal.put_wanted-requires-clause-putting
put_wanted-requires-clause-putting g c =
    let w = c.args.self.now in
    begins c.args.settings.now c.args.symbol w.draws w.tx w.rx.receiver w.rx.hp w.rx.lp w.cells c.requires.before c.packets.ensures.grow

pub symbol-requires-clause-few : goal.symbol-requires-clause-few
symbol-requires-clause-few g c = let made = c.requires.before.made in omega (arith, made, c.put_wanted.ensures.made, c.ranges.symbol.fits)

pub disturb-requires-clause-sent : goal.disturb-requires-clause-sent
disturb-requires-clause-sent g c =
    let s : Settings = c.args.settings.now in
    let t : Transmitter = c.put_wanted.new.tx in
    let p = c.put_wanted.ensures in
    let inputs : Inputs = drawn s c.put_wanted.new.draws.number in
    let same : t.settings ≡ s = p.settings ∙ c.requires.before.settings in
    let put : HasPut t inputs = subst (λ (z : Settings). HasPut t (drawn z c.put_wanted.new.draws.number)) same p.putting.put in
    c.deref.ensures.value ∙ c.symbol.ensures.bytes inputs put ∙ ap (λ (z : List ℕ). z ++ tx_symbol t.settings inputs t.made) c.clear.ensures.items ∙ ap₂ (λ (z : Settings) (n : ℕ). tx_symbol z inputs n) same (p.made ∙ c.requires.before.made)

pub disturb-requires-clause-load : goal.disturb-requires-clause-load
disturb-requires-clause-load g c =
    let s : Settings = c.args.settings.now in
    let t : Transmitter = c.put_wanted.new.tx in
    let d : Draws = c.put_wanted.new.draws in
    let p = c.put_wanted.ensures in
    let putting : IsPutting s c.args.symbol d t = seen_again t.settings s t.made c.args.symbol d t (sym (p.settings ∙ c.requires.before.settings)) (sym (p.made ∙ c.requires.before.made)) p.putting in
    (are_put s c.args.symbol d t putting p.suffices).load

pub feed_symbol-requires-clause-long : goal.feed_symbol-requires-clause-long
feed_symbol-requires-clause-long g c =
    let s : Settings = c.args.settings.now in
    omega (arith, ap length c.deref-3.ensures.value, ap length c.disturb.ensures.fed, c.cells.ensures.long s c.put_wanted.new.draws.number c.args.symbol, ap carriers c.requires.mode, g.M.Carriers.k_of, g.M.Carriers.row)

pub feed_symbol-requires-clause-whole : goal.feed_symbol-requires-clause-whole
feed_symbol-requires-clause-whole g c = λ bounds lives.
    let s : Settings = c.args.settings.now in
    ap (λ (z : List ℕ). length z) c.deref-3.ensures.value ∙ ap (λ (z : List ℕ). length z) c.disturb.ensures.fed ∙ c.cells.ensures.long s c.put_wanted.new.draws.number c.args.symbol ∙ ap (λ (z : Settings). symbol_length z) (sym c.requires.before.receives)

pub feed_symbol-requires-clause-before : goal.feed_symbol-requires-clause-before
feed_symbol-requires-clause-before g c = λ bounds lives.
    let s : Settings = c.args.settings.now in
    let n : ℕ = c.args.self.now.draws.number in
    let b = c.requires.before in
    let whole : HasWhole c.args.self.now.rx.receiver c.args.self.now.rx.hp c.args.self.now.rx.lp = record { bytes = first_fed s n c.args.symbol; whole = ap (λ (z : Settings). tail z (first_fed s n c.args.symbol)) b.receives ∙ no_tail c.cells.ensures.long s n c.args.symbol; given = b.given } in
    whole

pub feed_symbol-requires-clause-few : goal.feed_symbol-requires-clause-few
feed_symbol-requires-clause-few g c = let taken = c.requires.before.taken in omega (arith, taken, c.ranges.symbol.fits)

pub returns-clause-number : goal.returns-clause-number
returns-clause-number g c = ap (λ (z : Draws). z.number) c.disturb.ensures.draws ∙ ap (λ (z : Draws). z.number) c.put_wanted.ensures.kept

pub returns-clause-next : goal.returns-clause-next
returns-clause-next g c =
    let s : Settings = c.args.settings.now in
    let m : ℕ = c.args.symbol in
    let w = c.args.self.now in
    let d : Draws = w.draws in
    let d' : Draws = c.put_wanted.new.draws in
    let d'' : Draws = c.disturb.new.draws in
    let t : Transmitter = c.put_wanted.new.tx in
    let t' : Transmitter = c.symbol.new.self in
    let x : ReceiverState = w.rx.receiver in
    let b = c.requires.before in
    let p = c.put_wanted.ensures in
    let settings : t.settings ≡ s = p.settings ∙ b.settings in
    let made : t.made ≡ m = p.made ∙ b.made in
    let putting : IsPutting s m d' t = seen_again t.settings s t.made m d' t (sym settings) (sym made) p.putting in
    let all = are_put s m d' t putting p.suffices in
    let number : d'.number ≡ d.number = ap (λ (z : Draws). z.number) p.kept in
    let put : HasPut t (drawn s d.number) = subst (λ (n : ℕ). HasPut t (drawn s n)) number putting.put in
    let fed : List ℕ = c.deref-3.result.now in
    let disturbed : c.disturb.new.fed.items ≡ fed_symbol s d.number m = c.disturb.ensures.fed ∙ ap (λ (n : ℕ). fed_symbol s n m) number in
    let is_fed : fed ≡ fed_symbol s d.number m = c.deref-3.ensures.value ∙ disturbed in
    let summed : c.deref-2.result.now ≡ fed_symbol s d.number m = c.deref-2.ensures.value ∙ disturbed in
    let long : length fed ≡ symbol_length s = ap length is_fed ∙ c.cells.ensures.long s d.number m in
    let load : d''.load ≡ pieces_from s d.number m (before s d.number m) = ap (λ (z : Draws). z.load) c.disturb.ensures.draws ∙ ap (λ (n : ℕ). pieces_from s n m (before s n m)) number in
    let given = c.feed_symbol.ensures.given (first_fed s d.number m) (ap (λ (z : Settings). tail z (first_fed s d.number m)) b.receives ∙ no_tail c.cells.ensures.long s d.number m) b.given in
    let x' : ReceiverState = c.feed_symbol.new.self.receiver in
    next_before s m d w.tx x w.rx.hp w.rx.lp w.cells b c.cells.ensures.long (record d'' { load = c.feed_symbol.new.load }) t' x' c.feed_symbol.new.self.hp c.feed_symbol.new.self.lp c.sum_onto-self.result
    (ap (λ (z : Draws). z.number) c.disturb.ensures.draws ∙ number)
    (ap (λ (z : Draws). z.hp_packets) c.disturb.ensures.draws ∙ ap (λ (z : Draws). z.hp_packets) p.kept)
    (ap (λ (z : Draws). z.lp_packets) c.disturb.ensures.draws ∙ ap (λ (z : Draws). z.lp_packets) p.kept)
    (ap (λ (z : Draws). z.hp_left) c.disturb.ensures.draws ∙ putting.hp_left ∙ ap₂ (λ (n k : ℕ). hp_count n - k) number (sym c.symbol.ensures.hp))
    (ap (λ (z : Draws). z.lp_left) c.disturb.ensures.draws ∙ putting.lp_left ∙ ap₂ (λ (n k : ℕ). lp_count s n - k) number (sym c.symbol.ensures.lp))
    (c.feed_symbol.ensures.load ∙ ap₂ (λ (h : Lcg) (n : ℕ). after (pieces h n) h) load long)
    (c.symbol.ensures.settings ∙ settings)
    (c.symbol.ensures.made ∙ ap (λ (n : ℕ). n + 1) made)
    (c.symbol.ensures.hp ∙ all.hp)
    (c.symbol.ensures.lp ∙ all.lp)
    (c.symbol.ensures.put (drawn s d.number) put)
    (c.feed_symbol.ensures.settings ∙ b.receives)
    (subst (λ (z : List ℕ). HasGiven x' (first_fed s d.number m ++ z) c.feed_symbol.new.self.hp c.feed_symbol.new.self.lp) is_fed given)
    (c.sum_onto-self.ensures ∙ ap (λ (z : List ℕ). (w.cells + sum z) % 2 ^ 32) summed)
