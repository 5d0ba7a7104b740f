-- One power more.
use Rattle.std.proofs.Common.{◌≡◌, ℕ, ◌+◌, ◌*◌, ◌^◌, ◌≤◌, ap, sym, ◌∙◌, arith}
use Rattle.std.specs.Prelude.{sum_by}
use Rattle.spec_words.specs.Words.{numbers}
use Rattle.track_arithmetic.specs.Numbers.{power}
use Rattle.track_cells.specs.Gains.{gain_of}
use Rattle.track_cells.proofs.Sums.{total_none, total_more}
use Rattle.track_cells.proofs.reference_power.total_power.Goals as goal

pub loop-k-init : goal.loop-k-init
loop-k-init c = record { is = sym (total_none (λ (k : ℕ). power (gain_of c.args.gains.now k))); most = omega arith }

pub overflow_add-total : goal.overflow_add-total
overflow_add-total c =
    let small : c.power-total.result ≤ 2 ^ 51 = c.power-total.ensures.within (2 ^ 25) (c.requires.gains c.loop-k.k (omega (arith, c.loop-k-test.true))) in
    omega (arith, small, c.loop-k.invariant.most, c.loop-k-test.true, c.requires.few)

pub loop-k-preserved : goal.loop-k-preserved
loop-k-preserved c =
    let f = λ (k : ℕ). power (gain_of c.args.gains.now k) in
    let k = c.loop-k.k in
    let small : c.power-total.result ≤ 2 ^ 51 = c.power-total.ensures.within (2 ^ 25) (c.requires.gains k (omega (arith, c.loop-k-test.true))) in
    record {
      is = ap (λ (z : ℕ). z + c.power-total.result) c.loop-k.invariant.is ∙ ap (λ (z : ℕ). sum_by f (numbers k) + z) c.power-total.ensures.is ∙ sym (total_more f k);
      most = omega (arith, small, c.loop-k.invariant.most);
    }
