-- One point more.
use Rattle.std.proofs.Common.{◌≡◌, ℕ, ◌+◌, ◌*◌, ◌^◌, ◌<◌, length, ap, sym, ◌∙◌, subst, arith, inl, inr}
use Rattle.std.proofs.lemmas.Bool.{cases_lt}
use Rattle.std.proofs.lemmas.Grind.{get_or-set_at}
use Rattle.std.proofs.lemmas.List.{get_or-set_other, length-set}
use Rattle.tracking.specs.InFrequency.{slope}
use Rattle.track_arithmetic.specs.Laws.{IsWithin}
use Rattle.track_arithmetic.specs.Numbers.{near, nothing, times, turned_by}
use Rattle.track_arithmetic.specs.declared.complex.Complex.{Complex}
use Rattle.track_cells.specs.Gains.{gain_of}
use Rattle.track_cells.proofs.frequency.centre.Goals as goal

pub loop-j-preserved : goal.loop-j-preserved
loop-j-preserved c =
    let j = c.loop-j.j in
    let old = c.loop-j.centred in
    let i = c.loop-j.invariant in
    let g = c.args.guard in
    let few : j < length old = omega (arith, c.loop-j-test.true, i.long) in
    let gain = c.requires.gains j (omega (arith, few, i.long, c.requires.long)) in
    let one : c.turn.result ≡ near 14 (times (gain_of c.args.gains.now j) (turned_by (3 * j * slope g))) = c.turn.ensures.is ∙ ap (λ (z : ℕ). near 14 (times (gain_of c.args.gains.now j) (turned_by (3 * j * z)))) c.slope-slope.ensures.is in
    let small : IsWithin (2 ^ 22) c.turn.result = c.turn.ensures.within (2 ^ 21) gain in
    record {
      long = length-set old j c.turn.result ∙ i.long;
      is = λ k lt. elim (cases_lt k j) [
        | inl less ↦ get_or-set_other old j k c.turn.result nothing (λ e. omega (arith, e, less)) ∙ i.is k less
        | inr ge ↦ let e : k ≡ j = omega (arith, ge, lt) in get_or-set_at old j k c.turn.result nothing e few ∙ one ∙ ap (λ (z : ℕ). near 14 (times (gain_of c.args.gains.now z) (turned_by (3 * z * slope g)))) (sym e)
      ];
      within = λ k lt. elim (cases_lt k j) [
        | inl less ↦ subst (IsWithin (2 ^ 22)) (sym (get_or-set_other old j k c.turn.result nothing (λ e. omega (arith, e, less)))) (i.within k less)
        | inr ge ↦ let e : k ≡ j = omega (arith, ge, lt) in subst (IsWithin (2 ^ 22)) (sym (get_or-set_at old j k c.turn.result nothing e few)) small
      ];
    }
