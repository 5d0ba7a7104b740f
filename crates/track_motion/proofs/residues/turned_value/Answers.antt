-- The value of the point, turned.
use Rattle.std.proofs.Common.{◌≡◌, ℕ, ◌+◌, ◌-◌, ◌*◌, ◌^◌, ◌<◌, ◌≤◌, get_or, ap, sym, ◌∙◌, arith}
use Rattle.tracking.specs.Comb.{comb_of, turn, turned_value}
use Rattle.tracking.specs.InTime.{symbol_at}
use Rattle.track_arithmetic.specs.Numbers.{nothing, times}
use Rattle.track_arithmetic.specs.declared.complex.Complex.{Complex}
use Rattle.track_motion.proofs.Tests.{count_of, there_is}
use Rattle.track_motion.specs.Places.{in_file}
use Rattle.track_motion.proofs.residues.turned_value.Goals as goal

pub returns-clause-is : goal.returns-clause-is
unfolding turned_value
returns-clause-is g c = λ symbols h a.
    let comb = comb_of g.M.Carriers.MODE symbols in
    let t = symbol_at c.args.m c.args.p in
    let u = get_or c.args.around.now.turns c.args.p nothing in
    let count : comb.count ≡ c.args.window.now.count = count_of g.M.Carriers.MODE symbols ∙ sym h.number in
    let there = there_is comb c.args.m c.args.p (omega (arith, count, c.requires.there)) ∙ ap (λ (z : ℕ). in_file z c.args.m c.args.p) count ∙ c.requires.in_file in
    c.times.ensures.is ∙ ap (λ (z : Complex). times z u) (c.row.ensures.is symbols c.args.j h c.requires.point) ∙ ap (times (comb.value t c.args.j)) (a.turns c.args.p c.requires.place there)

pub returns-clause-within : goal.returns-clause-within
returns-clause-within g c =
    let w = c.times.ensures.within (2 ^ 15) (2 ^ 14) (c.row.ensures.within c.args.j c.requires.point) (c.requires.look.turns c.args.p c.requires.place) in
    record { re = omega (arith, w.re); im = omega (arith, w.im) }
