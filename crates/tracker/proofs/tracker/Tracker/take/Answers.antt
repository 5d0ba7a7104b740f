-- The symbol is kept, and the one seven before it is given.
use Rattle.std.proofs.Common.{◌≡◌, ℕ, ◌-◌, ◌++◌, ◌∷◌, [], length, ap, sym, ◌∙◌, subst}
use Rattle.mode_set.specs.declared.modes.Mode.{Mode}
use Rattle.tracking.specs.Tracking.{Symbol, tracked_bytes}
use Rattle.tracker.specs.Tracks.{TrackerState, Tracks}
use Rattle.tracker.proofs.Steps.{cells_of, kept_of, made, means_in, means_of, to_window, to_ring, waits, gives, count_of}
use Rattle.tracker.proofs.tracker.Tracker.take.Goals as goal

pub returns-then-count-lt8-clause-tracks : goal.returns-then-count-lt8-clause-tracks
returns-then-count-lt8-clause-tracks g c = λ symbols h.
    let t = c.self.inside in
    let x : Symbol = record { cells = c.args.cells.now; weights = c.args.weights.now } in
    let stood : Tracks (made t.settings t.window t.ring t.means t.kept t.given t.ended) symbols = subst (λ (z : TrackerState). Tracks z symbols) (sym c.self.view_is) h in
    let given : t.given ≡ t.window.count - 7 = c.self.invariant.going (ap (λ (z : TrackerState). z.ended) c.self.view_is ∙ c.requires.going) in
    waits t.settings g.M.Carriers.MODE g.M.Carriers.K t.window c.push.new.self t.ring c.push-2.new.self t.means t.kept c.push_change.new.kept t.given t.ended symbols x c.self.invariant.mode g.M.Carriers.k_of given
    (λ cells s. c.push.ensures.stands cells s) (λ kept s. c.push-2.ensures.keeps kept s) (λ cells s. c.push_change.ensures.keeps cells s) stood

pub returns-clause-tracks : goal.returns-clause-tracks
returns-clause-tracks g c = λ symbols h.
    let t = c.self.inside in
    let m : Mode = g.M.Carriers.MODE in
    let x : Symbol = record { cells = c.args.cells.now; weights = c.args.weights.now } in
    let all = symbols ++ x ∷ [] in
    let stood : Tracks (made t.settings t.window t.ring t.means t.kept t.given t.ended) symbols = subst (λ (z : TrackerState). Tracks z symbols) (sym c.self.view_is) h in
    let given : t.given ≡ t.window.count - 7 = c.self.invariant.going (ap (λ (z : TrackerState). z.ended) c.self.view_is ∙ c.requires.going) in
    let waiting = waits t.settings m g.M.Carriers.K t.window c.push.new.self t.ring c.push-2.new.self t.means t.kept c.push_change.new.kept t.given t.ended symbols x c.self.invariant.mode g.M.Carriers.k_of given
    (λ cells s. c.push.ensures.stands cells s) (λ kept s. c.push-2.ensures.keeps kept s) (λ cells s. c.push_change.ensures.keeps cells s) stood in
    let seen = to_window t.settings m c.self.invariant.mode c.push.new.self all waiting.window in
    let stay = kept_of t.settings m c.self.invariant.mode c.push_change.new.kept all waiting.changes in
    gives t.settings c.push.new.self c.push-2.new.self t.means c.see-seen.result.means c.push_change.new.kept t.given t.ended all
    (means_of t.settings m c.self.invariant.mode c.see-seen.result.means t.given all (c.see-seen.ensures.means (cells_of all) seen stay (means_in t.settings m c.self.invariant.mode t.means (t.given - 1) all waiting.means))) waiting

pub returns-clause-gives : goal.returns-clause-gives
returns-clause-gives g c = λ symbols h.
    let t = c.self.inside in
    let m : Mode = g.M.Carriers.MODE in
    let x : Symbol = record { cells = c.args.cells.now; weights = c.args.weights.now } in
    let all = symbols ++ x ∷ [] in
    let stood : Tracks (made t.settings t.window t.ring t.means t.kept t.given t.ended) symbols = subst (λ (z : TrackerState). Tracks z symbols) (sym c.self.view_is) h in
    let given : t.given ≡ t.window.count - 7 = c.self.invariant.going (ap (λ (z : TrackerState). z.ended) c.self.view_is ∙ c.requires.going) in
    let waiting = waits t.settings m g.M.Carriers.K t.window c.push.new.self t.ring c.push-2.new.self t.means t.kept c.push_change.new.kept t.given t.ended symbols x c.self.invariant.mode g.M.Carriers.k_of given
    (λ cells s. c.push.ensures.stands cells s) (λ kept s. c.push-2.ensures.keeps kept s) (λ cells s. c.push_change.ensures.keeps cells s) stood in
    let seen = to_window t.settings m c.self.invariant.mode c.push.new.self all waiting.window in
    let kept = to_ring t.settings m g.M.Carriers.K c.self.invariant.mode g.M.Carriers.k_of c.push-2.new.self all waiting.ring in
    let number : t.given ≡ length symbols - 7 = given ∙ ap (λ (z : ℕ). z - 7) (count_of _ symbols stood) in
    let stay = kept_of t.settings m c.self.invariant.mode c.push_change.new.kept all waiting.changes in
    let before = means_in t.settings m c.self.invariant.mode t.means (t.given - 1) all waiting.means in
    c.push_symbol.ensures.appended all seen kept (c.see-seen.ensures.are (cells_of all) seen stay) (c.see-seen.ensures.means (cells_of all) seen stay before)
    ∙ ap (λ (z : ℕ). c.args.to.now.items ++ tracked_bytes t.settings all z) number
    ∙ ap (λ (z : TrackerState). c.args.to.now.items ++ tracked_bytes z.settings all (length symbols - 7)) c.self.view_is
