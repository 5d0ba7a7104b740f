-- The entry of the table, and its size.
use Rattle.std.proofs.Common.{rules, ◌≡◌, ◌^◌, ◌≤◌, ◌∙◌, List, get_or, ap, sym, subst, arith, to_z, of_z, FitsSigned}
use Rattle.std.specs.Prelude.{ℤ, pos, nat_abs}
use Rattle.std.specs.Int.{w16, w64}
use Rattle.std.proofs.lemmas.Int.{ints}
use Rattle.track_arithmetic.specs.Numbers.{cosine}
use Rattle.track_cells.proofs.Tables.{entry, cosine_is_small}
use Rattle.track_cells.proofs.turns.cosine.Goals as goal

pub returns-clause-is : goal.returns-clause-is
returns-clause-is c =
    let v = get_or c.cosines.result.now c.args.i (pos 0) in
    let fits : FitsSigned w16 v = search rules in
    let f : c.from.result ≡ v = omega (arith, ints, c.from.ensures, fits) in
    let e : v ≡ cosine c.args.i = ap (λ (z : List ℤ). get_or z c.args.i (pos 0)) c.cosines.ensures ∙ entry cosine 64 c.args.i (pos 0) c.requires in
    omega (arith, ints, f, e, fits)

pub returns-clause-within : goal.returns-clause-within
returns-clause-within c = subst (λ (z : ℤ). nat_abs z ≤ 2 ^ 14) (sym (returns-clause-is c)) (cosine_is_small c.args.i c.requires)
