-- One product more.
use Rattle.std.proofs.Common.{◌≡◌, ℕ, ◌+◌, ◌*◌, ◌^◌, ◌<◌, ◌≤◌, take, length, get_or, ap, sym, ◌∙◌, arith}
use Rattle.track_arithmetic.specs.Numbers.{plus, sum_of}
use Rattle.track_arithmetic.specs.declared.complex.Complex.{Complex}
use Rattle.track_turns.specs.Rows.{product}
use Rattle.track_turns.proofs.Adding.{sum_none, sum_more}
use Rattle.track_turns.proofs.sums.products.Goals as goal

pub loop-i-init : goal.loop-i-init
loop-i-init c = record { is = sym (sum_none (product c.args.row.now c.args.other.now) c.args.points.now); within = record { re = omega arith; im = omega arith } }

pub loop-i-preserved : goal.loop-i-preserved
loop-i-preserved c =
    let i = c.loop-i.i in
    let points = c.args.points.now in
    let f = product c.args.row.now c.args.other.now in
    let w = c.plus-sum.ensures.within (i * 2 ^ 31) (2 ^ 31) c.loop-i.invariant.within c.product.ensures.within in
    let one : c.product.result ≡ f (get_or points i 0) = c.product.ensures.is ∙ ap f c.from.ensures in
    record {
      is = c.plus-sum.ensures.is ∙ ap (λ (z : Complex). plus z c.product.result) c.loop-i.invariant.is ∙ ap (plus (sum_of f (take i points))) one ∙ sym (sum_more f points i (omega (arith, c.loop-i-test.true)));
      within = record { re = omega (arith, w.re); im = omega (arith, w.im) };
    }
