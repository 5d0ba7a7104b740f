-- The next symbol is given.
use Rattle.std.proofs.Common.{◌-◌, ◌++◌, ap, sym, ◌∙◌, subst}
use Rattle.mode_set.specs.declared.modes.Mode.{Mode}
use Rattle.tracking.specs.Tracking.{tracked_bytes}
use Rattle.tracker.specs.Tracks.{TrackerState, Tracks}
use Rattle.tracker.proofs.Steps.{cells_of, kept_of, made, means_in, means_of, to_window, to_ring, gives}
use Rattle.tracker.proofs.tracker.Tracker.rest.Goals as goal

pub returns-clause-tracks : goal.returns-clause-tracks
returns-clause-tracks g c = λ symbols h.
    let t = c.self.inside in
    let m : Mode = g.M.Carriers.MODE in
    let stood : Tracks (made t.settings t.window t.ring t.means t.kept t.given t.ended) symbols = subst (λ (z : TrackerState). Tracks z symbols) (sym c.self.view_is) h in
    let seen = to_window t.settings m c.self.invariant.mode t.window symbols stood.window in
    let stay = kept_of t.settings m c.self.invariant.mode t.kept symbols stood.changes in
    gives t.settings t.window t.ring t.means c.see-seen.result.means t.kept t.given t.ended symbols
    (means_of t.settings m c.self.invariant.mode c.see-seen.result.means t.given symbols (c.see-seen.ensures.means (cells_of symbols) seen stay (means_in t.settings m c.self.invariant.mode t.means (t.given - 1) symbols stood.means))) stood

pub returns-clause-gives : goal.returns-clause-gives
returns-clause-gives g c = λ symbols h.
    let t = c.self.inside in
    let m : Mode = g.M.Carriers.MODE in
    let stood : Tracks (made t.settings t.window t.ring t.means t.kept t.given t.ended) symbols = subst (λ (z : TrackerState). Tracks z symbols) (sym c.self.view_is) h in
    let seen = to_window t.settings m c.self.invariant.mode t.window symbols stood.window in
    let kept = to_ring t.settings m g.M.Carriers.K c.self.invariant.mode g.M.Carriers.k_of t.ring symbols stood.ring in
    let stay = kept_of t.settings m c.self.invariant.mode t.kept symbols stood.changes in
    let before = means_in t.settings m c.self.invariant.mode t.means (t.given - 1) symbols stood.means in
    c.push_symbol.ensures.appended symbols seen kept (c.see-seen.ensures.are (cells_of symbols) seen stay) (c.see-seen.ensures.means (cells_of symbols) seen stay before)
    ∙ ap (λ (z : TrackerState). c.args.to.now.items ++ tracked_bytes z.settings symbols z.given) c.self.view_is
