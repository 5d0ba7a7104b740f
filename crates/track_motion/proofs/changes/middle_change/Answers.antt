-- The middle one of a part of the list.
use Rattle.std.proofs.Common.{◌≡◌, ℕ, ◌+◌, ◌-◌, ◌<◌, ◌≤◌, ◌^◌, List, length, take, drop, get_or, ap, sym, ◌∙◌, subst, arith, length-drop}
use Rattle.std.proofs.lemmas.List.{length-take-le}
use Rattle.tracking.specs.BadSymbols.{middle}
use Rattle.track_motion.specs.Places.{end_place, first_place}
use Rattle.track_motion.proofs.Middles.{part_is, middle_is, middle_most, of_part}
use Rattle.track_motion.proofs.changes.middle_change.Goals as goal

pub returns-clause-is : goal.returns-clause-is
returns-clause-is c = λ d m has ef ee some.
    let lesser = c.args.lesser.now in
    let first = c.args.first in
    let n = c.args.end - first in
    let part = take n (drop first lesser) in
    let long : length part ≡ n = length-take-le n (drop first lesser) (omega (arith, length-drop first lesser, c.requires.end, c.told-lesser)) in
    let items : (i : ℕ) → i < length part → get_or part i 0 ≡ get_or lesser (first_place m + i) 0 = λ i lt. of_part lesser first n i (omega (arith, lt, long)) ∙ ap (λ (z : ℕ). get_or lesser (z + i) 0) ef in
    c.middle.ensures ∙ middle_is d m part (part_is d m lesser part some has (omega (arith, long, ef, ee)) items)

pub returns-clause-most : goal.returns-clause-most
returns-clause-most c =
    let lesser = c.args.lesser.now in
    let first = c.args.first in
    let n = c.args.end - first in
    let part = take n (drop first lesser) in
    let long : length part ≡ n = length-take-le n (drop first lesser) (omega (arith, length-drop first lesser, c.requires.end, c.told-lesser)) in
    let most = middle_most (2 ^ 44) part (λ i lt. let s = c.requires.small (first + i) (omega (arith, lt, long, c.requires.end)) in let e = of_part lesser first n i (omega (arith, lt, long)) in omega (arith, s, e)) in
    let e = c.middle.ensures in
    subst (λ (z : ℕ). z ≤ 2 ^ 44) (sym e) most
