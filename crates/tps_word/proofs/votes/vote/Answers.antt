-- The products are added one by one.
use Rattle.std.proofs.Common.{◌≡◌, ◌+◌, ℤ, ◌+ℤ◌, pos, ap, sym, subst, ◌∙◌, arith, FitsSigned, w64, to_z, of_z, drop, length-drop}
use Rattle.std.specs.Prelude.{int_lt}
use Rattle.std.proofs.lemmas.Int.{ints, to_z-of_z}
use Rattle.tps_word.specs.Vote.{agreement, vote}
use Rattle.tps_word.proofs.Agreements.{one_more, none_left}
use Rattle.tps_word.proofs.votes.vote.Invariants.{Sums}
use Rattle.tps_word.proofs.votes.vote.Goals as goal

pub loop-i-preserved : goal.loop-i-preserved
loop-i-preserved c =
    let before = c.args.before.now in
    let now = c.args.now.now in
    let sum = to_z w64 c.loop-i.sum-bits in
    let corr = c.correlation-sum.result in
    let inv = c.loop-i.invariant in
    let small : FitsSigned w64 corr = omega (arith, ints, c.correlation-sum.ensures.least, c.correlation-sum.ensures.most) in
    let one : to_z w64 (of_z w64 corr) ≡ corr = to_z-of_z w64 corr small in
    let fits : FitsSigned w64 (sum +ℤ corr) = omega (arith, ints, c.correlation-sum.ensures.least, c.correlation-sum.ensures.most, inv.least, inv.most, c.requires.few) in
    let all : to_z w64 (of_z w64 (sum +ℤ to_z w64 (of_z w64 corr))) ≡ sum +ℤ corr = ap (λ (z : ℤ). to_z w64 (of_z w64 (sum +ℤ z))) one ∙ to_z-of_z w64 (sum +ℤ corr) fits in
    subst (λ (s : ℤ). Sums (c.loop-i.i + 1) s before now) (sym all)
    (record {
      value = one_more before now c.loop-i.i _ _ sum corr (agreement before now) (omega arith) (omega (arith, c.requires.same)) c.correlation-sum.ensures.value inv.value;
      least = omega (arith, ints, c.correlation-sum.ensures.least, inv.least);
      most = omega (arith, ints, c.correlation-sum.ensures.most, inv.most);
    })

pub returns : goal.returns
unfolding vote
returns c =
    let before = c.args.before.now in
    let i = c.loop-i.i in
    let none : agreement (drop i before) (drop i c.args.now.now) ≡ pos 0 = none_left (drop i before) (drop i c.args.now.now) (omega (arith, length-drop i before)) in
    let whole : to_z w64 c.loop-i.sum-bits ≡ agreement before c.args.now.now = omega (arith, ints, c.loop-i.invariant.value, none) in
    ap (λ (z : ℤ). int_lt z (pos 0)) whole
