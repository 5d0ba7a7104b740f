-- Nothing by a tap of 0, else the value times the tap.
use Rattle.std.proofs.Common.{rules, ◌≡◌, ℕ, ◌+◌, ◌*◌, ◌^◌, ◌≤◌, refl, ap, sym, ◌∙◌, subst, arith, to_z, of_z, FitsSigned}
use Rattle.std.specs.Prelude.{ℤ, pos, nat_abs}
use Rattle.std.specs.Int.{w16, w64}
use Rattle.std.proofs.lemmas.Int.{ints}
use Rattle.tracking.specs.Comb.{comb_of, turned_value}
use Rattle.tracking.specs.InTime.{symbol_at}
use Rattle.track_arithmetic.specs.Numbers.{scaled}
use Rattle.track_comb_gains.proofs.Shares.{scaled_none}
use Rattle.track_comb_gains.proofs.plain.share.Goals as goal

pub returns-then-tap-eq0-clause-is : goal.returns-then-tap-eq0-clause-is
returns-then-tap-eq0-clause-is g c = λ symbols h a.
    let v = turned_value (comb_of g.M.Carriers.MODE symbols) c.args.m (symbol_at c.args.m c.args.p) c.args.j in
    let tap = c.args.tap in
    let fits : FitsSigned w16 tap = c.ranges.tap in
    let zero : tap ≡ pos 0 = omega (arith, ints, c.if-tap-eq0.true, fits) in
    sym (scaled_none v) ∙ ap (λ (z : ℤ). scaled z v) (sym zero)

pub returns-clause-is : goal.returns-clause-is
returns-clause-is g c = λ symbols h a.
    let tap = c.args.tap in
    let fits : FitsSigned w16 tap = c.ranges.tap in
    let n : to_z w64 (of_z w64 c.from.result) ≡ tap = omega (arith, ints, c.from.ensures, fits) in
    c.scaled.ensures.is ∙ ap (λ (z : ℤ). scaled z c.turned_value.result) n ∙ ap (scaled tap) (c.turned_value.ensures.is symbols h a)

pub returns-clause-within : goal.returns-clause-within
returns-clause-within g c =
    let tap = c.args.tap in
    let fits : FitsSigned w16 tap = c.ranges.tap in
    let n : to_z w64 (of_z w64 c.from.result) ≡ tap = omega (arith, ints, c.from.ensures, fits) in
    let least : nat_abs (to_z w64 (of_z w64 c.from.result)) ≤ nat_abs tap = subst (λ (z : ℤ). nat_abs z ≤ nat_abs tap) (sym n) (omega arith) in
    c.scaled.ensures.within (2 ^ 30) (nat_abs tap) c.turned_value.ensures.within least
