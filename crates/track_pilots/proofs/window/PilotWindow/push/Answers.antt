-- The symbol takes the place of the one sixteen before.
use Rattle.std.proofs.Common.{◌≡◌, ℕ, ◌+◌, ◌-◌, ◌*◌, ◌/◌, ◌%◌, ◌<◌, ◌∷◌, ◌++◌, [], List, length, ap, sym, ◌∙◌, subst, arith}
use Rattle.std.proofs.lemmas.List.{with_items_is}
use Rattle.tracking.specs.Comb.{points}
use Rattle.track_arithmetic.specs.declared.complex.Complex.{Complex}
use Rattle.track_pilots.specs.Window.{WindowState, StandsFor}
use Rattle.track_pilots.proofs.Kept.{one_more}
use Rattle.track_pilots.proofs.window.PilotWindow.push.Goals as goal
use borrow.Rule.Slice.PartMut.{put_mid, same_len_mid}

abbrev made : ℕ → List Complex → WindowState
made count rows = record { count = count; rows = rows }

pub returns-clause-stands : goal.returns-clause-stands
returns-clause-stands g c = λ symbols h.
    let m = g.M.Carriers.MODE in
    let s = c.self.inside in
    let p = (c.K.result + 2) / 3 in
    let count : p ≡ points m = ap (λ (z : ℕ). (z + 2) / 3) (c.K.ensures ∙ g.M.Carriers.k_of) in
    let a = s.count % 16 * p in
    let k = a + p - a in
    let row = c.take_pilots.new.row in
    let part : length row ≡ k = omega (arith, c.take_pilots.ensures.long) in
    let long : length row ≡ points m = omega (arith, part, count) in
    let rows : length s.rows.items ≡ 16 * points m = omega (arith, c.self.invariant.long, ap (λ (z : ℕ). (z + 2) / 3) g.M.Carriers.k_of) in
    let value = c.deref_mut.ensures.value in
    let size = same_len_mid a k c.deref_mut.result.now row c.take_pilots.ensures.long in
    let items = with_items_is s.rows (put_mid a k c.deref_mut.result.now row) (size ∙ c.deref_mut.ensures.len) in
    let same : put_mid a k c.deref_mut.result.now row ≡ put_mid (s.count % 16 * points m) k s.rows.items row = ap (λ (z : List Complex). put_mid a k z row) value ∙ ap (λ (z : ℕ). put_mid (s.count % 16 * z) k s.rows.items row) count in
    let stood : StandsFor m (made s.count s.rows.items) symbols = subst (λ (z : WindowState). StandsFor m z symbols) (sym c.self.view_is) h in
    let is = λ (j : ℕ) (lt : j < points m). c.take_pilots.ensures.is j (omega (arith, lt, long, c.take_pilots.ensures.long)) in
    let new = one_more m (made s.count s.rows.items) symbols c.args.cells.now row k (omega (arith, count)) long rows is stood in
    subst (λ (z : List Complex). StandsFor m (made (s.count + 1) z) (symbols ++ c.args.cells.now ∷ [])) (sym (items ∙ same)) new
