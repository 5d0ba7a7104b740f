use Rattle.std.proofs.Common.{◌≡◌, ◌+◌, ◌-◌, ◌++◌, ◌∷◌, [], ℕ, List, Bool, length, ap, ◌∙◌, subst}
use Rattle.std.specs.Prelude.{if◌then◌else◌, nat_le}
use Rattle.tracking.specs.Tracking.{Symbol, tracked_bytes}
use Rattle.mode_set.specs.declared.settings.Settings.{Settings}
use Rattle.tracker.specs.Tracks.{Tracks}
use Rattle.cmd_track.specs.Working.{next_given, symbol_in}
use Rattle.cmd_track.proofs.Left.{count_of}
use Rattle.cmd_track.proofs.Taking.{given_is, symbol_is}
use Rattle.cmd_track.proofs.tracking_work.take_symbol.Goals as goal

pub returns-clause-tracks : goal.returns-clause-tracks
returns-clause-tracks g c = λ symbols h.
    let k : ℕ = g.M.Carriers.K in
    let bytes : List ℕ = c.args.bytes.now in
    let x : Symbol = record { cells = c.cells.result.now; weights = c.weights.result.now } in
    let is : x ≡ symbol_in bytes k = symbol_is k c.args.symbol.now bytes c.take.result c.take.new.self c.cells.result.now c.weights.result.now c.requires.empty c.requires.whole c.take.ensures.count c.take.ensures.taken c.cells.ensures.cells c.weights.ensures.weights in
    subst (λ (y : Symbol). Tracks c.take-2.new.self (symbols ++ y ∷ [])) is (c.take-2.ensures.tracks symbols h)

pub returns-clause-gives : goal.returns-clause-gives
returns-clause-gives g c = λ symbols h.
    let k : ℕ = g.M.Carriers.K in
    let bytes : List ℕ = c.args.bytes.now in
    let s : Settings = c.args.tracker.now.settings in
    let x : Symbol = record { cells = c.cells.result.now; weights = c.weights.result.now } in
    let is : x ≡ symbol_in bytes k = symbol_is k c.args.symbol.now bytes c.take.result c.take.new.self c.cells.result.now c.weights.result.now c.requires.empty c.requires.whole c.take.ensures.count c.take.ensures.taken c.cells.ensures.cells c.weights.ensures.weights in
    let given : c.take-2.result ≡ nat_le 7 (length symbols) = given_is c.take-2.result (length symbols) c.take-2.new.self.window.count (c.take-2.ensures.count ∙ ap (λ (n : ℕ). n + 1) (count_of c.args.tracker.now symbols h)) c.take-2.ensures.answer in
    c.take-2.ensures.gives symbols h
    ∙ ap (λ (l : List ℕ). l ++ (if c.take-2.result then tracked_bytes s (symbols ++ x ∷ []) (length symbols - 7) else [])) c.clear.ensures.items
    ∙ ap (λ (b : Bool). if b then tracked_bytes s (symbols ++ x ∷ []) (length symbols - 7) else []) given
    ∙ ap (next_given s symbols) is
