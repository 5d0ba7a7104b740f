use Rattle.std.proofs.Common.{◌∙◌, sym, ap, subst, map, take, drop, ◌++◌, ◌≡◌, replicate, ◌<◌, lit≤, length-take-le, arith}
use Rattle.gf256.specs.Field as field
use Rattle.std.proofs.lemmas.List.Elements.{All-from_recursion}
use Rattle.std.specs.List.{All}
use Rattle.rs204.specs.Decoding.{AllDiffer, HasFewRoots, chosen, is_root, corrected, Solves}
use Rattle.rs204.proofs.Near.{bytes_of, chosen_differ, chosen_below, fewer_roots, repaired}
use Rattle.rs204.proofs.steps.repair.Goals as goal

pub find_places-places-requires-clause-few : goal.find_places-places-requires-clause-few
find_places-places-requires-clause-few c = omega (arith, fewer_roots c.args.polynomial.now (bytes_of c.args.polynomial.now (λ k. (c.type_inv.polynomial k).fits)) c.requires.some, c.requires.size)

pub solve-requires-clause-differ : goal.solve-requires-clause-differ
solve-requires-clause-differ c = subst AllDiffer (sym (c.powers-found.ensures ∙ ap (map field.power) c.find_places-places.ensures.places)) (chosen_differ 204 (is_root c.args.polynomial.now) (lit≤ tt))

pub correct-requires-clause-within : goal.correct-requires-clause-within
correct-requires-clause-within c = subst (All (λ k. k < 204)) (sym c.find_places-places.ensures.places) (All-from_recursion (λ k. k < 204) (chosen (is_root c.args.polynomial.now) 204) (chosen_below 204 (is_root c.args.polynomial.now)))

pub returns-clause-is : goal.returns-clause-is
returns-clause-is c = λ w h d.
    let places = c.find_places-places.result in
    let n = places.count in
    let few : HasFewRoots c.args.polynomial.now = omega (arith, fewer_roots c.args.polynomial.now (bytes_of c.args.polynomial.now (λ k. (c.type_inv.polynomial k).fits)) c.requires.some, c.requires.size) in
    let e : c.correct.new.word ≡ corrected c.args.word.now (take n places.at) (take n (c.solve.new.values ++ drop n (replicate 16 0))) = c.correct.ensures.is in
    let s : Solves (take n c.powers-found.result) (take n c.args.values.now) c.solve.new.values = c.solve.ensures.solved in
    repaired c.args.word.now w c.args.values.now c.args.polynomial.now c.powers-found.result c.solve.new.values places.at c.correct.new.word (drop n (replicate 16 0)) n
    c.told-word c.fits-word c.requires.values few c.find_places-places.ensures.places c.powers-found.ensures
    (c.solve.ensures.size ∙ length-take-le n (replicate 16 0) c.find_places-places.ensures.count) s e h d
