-- One carrier more.
use Rattle.std.proofs.Common.{◌≡◌, ℕ, ◌+◌, ◌*◌, ◌^◌, ◌<◌, length, get_or, [], ◌∙◌, arith}
use Rattle.std.proofs.lemmas.List.{get_or-set_other, length-set}
use Rattle.track_arithmetic.specs.Laws.{IsWithin}
use Rattle.track_arithmetic.specs.Numbers.{near, nothing, times}
use Rattle.track_arithmetic.specs.declared.complex.Complex.{Complex}
use Rattle.track_cells.specs.Weighed.{pair_at, part_at}
use Rattle.track_cells.proofs.Placed.{placed_from}
use Rattle.track_cells.proofs.Weighing.{held_turn}
use Rattle.track_cells.proofs.frequency.put_three.Goals as goal

pub loop-r-preserved : goal.loop-r-preserved
loop-r-preserved c =
    let r = c.loop-r.r in
    let old = c.loop-r.to in
    let i = c.loop-r.invariant in
    let k = c.args.k in
    let x = c.turned.result in
    let lt : r < 3 = omega (arith, c.loop-r-test.true) in
    let j = 3 * c.args.n + r in
    let few_j : j < 192 = omega (arith, lt, c.requires.place) in
    let few : k + r < length old = omega (arith, c.loop-r-test.true, i.long, c.requires.room) in
    record {
      long = length-set old (k + r) x ∙ i.long;
      before = λ j less. get_or-set_other old (k + r) j x nothing (λ e. omega (arith, e, less)) ∙ i.before j less;
      is = placed_from (λ (s : ℕ) (z : Complex). z ≡ near 14 (times (pair_at (get_or c.args.re.now s []) (get_or c.args.im.now s []) c.args.n) (pair_at c.args.cosines.now c.args.sines.now (3 * c.args.n + s)))) nothing old k r x few i.is (c.turned.ensures.is ∙ held_turn (part_at (get_or c.args.re.now r []) c.args.n) (part_at (get_or c.args.im.now r []) c.args.n) (part_at c.args.cosines.now j) (part_at c.args.sines.now j) (c.requires.re r lt) (c.requires.im r lt) (c.requires.cosines j few_j) (c.requires.sines j few_j));
      within = placed_from (λ (s : ℕ) (z : Complex). IsWithin (2 ^ 25) z) nothing old k r x few i.within c.turned.ensures.within;
    }
