-- The lesser change, by the neighbours that the file has.
use Rattle.std.proofs.Common.{◌≡◌, ℕ, ◌+◌, ◌-◌, ◌<◌, ◌≤◌, get_or, ap, sym, ◌∙◌, arith}
use Rattle.tracking.specs.Comb.{Comb}
use Rattle.track_motion.specs.Places.{end_place, first_place}
use Rattle.track_motion.proofs.Lesser as lesser
use Rattle.track_motion.proofs.changes.lesser_change.Goals as goal

pub returns-then-p-first-clause-is : goal.returns-then-p-first-clause-is
returns-then-p-first-clause-is c = λ d m has ef ee some first last.
    let before : first_place m < c.args.p = omega (arith, ef, c.if-p-first.true) in
    let end : c.args.p < end_place d.count m = omega (arith, ee, last) in
    lesser.from_before d m c.args.p some (omega (arith, before)) end (get_or c.args.changes.now c.args.p 0) before (omega (arith, ee, c.if-p-end.true)) (has.is c.args.p before end)

pub returns-else-p-first-clause-is : goal.returns-else-p-first-clause-is
returns-else-p-first-clause-is c = λ d m has ef ee some first last.
    lesser.none d m c.args.p some (omega (arith, ef, first)) (omega (arith, ee, last)) (omega (arith, ef, c.if-p-first.false)) (omega (arith, ee, c.if-p-end.true))

pub returns-then-p-first-2-clause-is : goal.returns-then-p-first-2-clause-is
returns-then-p-first-2-clause-is c = λ d m has ef ee some first last.
    let p = c.args.p in
    let before : first_place m < p = omega (arith, ef, c.if-p-first-2.true) in
    let end : p < end_place d.count m = omega (arith, ee, last) in
    let after : p + 1 < end_place d.count m = omega (arith, ee, c.if-p-end.false) in
    c.min.ensures ∙ lesser.lesser_of d m p some (omega (arith, before)) end (get_or c.args.changes.now p 0) (get_or c.args.changes.now (p + 1) 0) before after (has.is p before end) (has.is (p + 1) (omega (arith, before)) after)

pub returns-else-p-first-2-clause-is : goal.returns-else-p-first-2-clause-is
returns-else-p-first-2-clause-is c = λ d m has ef ee some first last.
    let p = c.args.p in
    let start : first_place m ≤ p = omega (arith, ef, first) in
    let after : p + 1 < end_place d.count m = omega (arith, ee, c.if-p-end.false) in
    lesser.to_after d m p some start (omega (arith, ee, last)) (get_or c.args.changes.now (p + 1) 0) (omega (arith, ef, c.if-p-first-2.false)) after (has.is (p + 1) (omega (arith, start)) after)
