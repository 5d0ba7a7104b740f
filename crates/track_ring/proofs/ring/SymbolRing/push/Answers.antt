-- The symbol takes the place of the one eight before.
use Rattle.std.proofs.Common.{◌≡◌, ℕ, ◌+◌, ◌-◌, ◌*◌, ◌%◌, ◌<◌, ◌∷◌, ◌++◌, [], List, length, ap, sym, ◌∙◌, subst, arith}
use Rattle.std.proofs.lemmas.List.{with_items_is}
use Rattle.tracking.specs.Tracking.{Symbol}
use Rattle.qam_map.specs.declared.cell.Cell.{Cell}
use Rattle.track_ring.specs.Ring.{RingState, Keeps}
use Rattle.track_ring.proofs.Kept.{also, made, pushed}
use Rattle.track_ring.proofs.ring.SymbolRing.push.Goals as goal
use borrow.Rule.Slice.PartMut.{put_mid, same_len_mid}

pub returns-clause-keeps : goal.returns-clause-keeps
returns-clause-keeps g c = λ symbols h.
    let w : ℕ = g.M.Carriers.K in
    let s = c.self.inside in
    let p = c.K-carriers.result in
    let ep : p ≡ w = c.K-carriers.ensures in
    let a = s.count % 8 * p in
    let k = a + p - a in
    let x : Symbol = record { cells = c.args.cells.now; weights = c.args.weights.now } in
    let all = symbols ++ x ∷ [] in
    let cells = c.copy_cells.new.row in
    let weights = c.copy_weights.new.row in
    let cells_size = same_len_mid a k c.deref_mut.result.now cells c.copy_cells.ensures.long in
    let weights_size = same_len_mid a k c.deref_mut-2.result.now weights c.copy_weights.ensures.long in
    let cells_items = with_items_is s.cells (put_mid a k c.deref_mut.result.now cells) (cells_size ∙ c.deref_mut.ensures.len) in
    let weights_items = with_items_is s.weights (put_mid a k c.deref_mut-2.result.now weights) (weights_size ∙ c.deref_mut-2.ensures.len) in
    let cells_same : put_mid a k c.deref_mut.result.now cells ≡ put_mid (s.count % 8 * w) k s.cells.items c.args.cells.now =
    ap (λ (z : List Cell). put_mid a k z cells) c.deref_mut.ensures.value ∙ ap (λ (z : ℕ). put_mid (s.count % 8 * z) k s.cells.items cells) ep ∙ ap (put_mid (s.count % 8 * w) k s.cells.items) c.copy_cells.ensures.is in
    let weights_same : put_mid a k c.deref_mut-2.result.now weights ≡ put_mid (s.count % 8 * w) k s.weights.items c.args.weights.now =
    ap (λ (z : List ℕ). put_mid a k z weights) c.deref_mut-2.ensures.value ∙ ap (λ (z : ℕ). put_mid (s.count % 8 * z) k s.weights.items weights) ep ∙ ap (put_mid (s.count % 8 * w) k s.weights.items) c.copy_weights.ensures.is in
    let ek : k ≡ w = omega (arith, ep) in
    let stood : Keeps w (made s.count s.cells.items s.weights.items) symbols = subst (λ (z : RingState). Keeps w z symbols) (sym c.self.view_is) h in
    let new = pushed w s.count k k s.cells.items s.weights.items x symbols ek ek c.requires.cells c.requires.weights c.self.invariant.cells_long c.self.invariant.weights_long stood in
    also w (s.count + 1) all _ _ _ _ (cells_items ∙ cells_same) (weights_items ∙ weights_same) new
