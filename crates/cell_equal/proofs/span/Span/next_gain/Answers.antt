-- Both parts go one step further on their line.
use Rattle.std.proofs.Common.{◌≡◌, ◌∙◌, arith, FitsSigned, to_z, of_z}
use Rattle.std.specs.Prelude.{◌+ℤ◌, ◌-ℤ◌}
use Rattle.std.specs.Int.{w64}
use Rattle.std.proofs.lemmas.Int.{ints, to_z-of_z}
use Rattle.cell_equal.proofs.Quotients.{next_between}
use Rattle.cell_equal.proofs.span.Span.next_gain.Goals as goal

pub returns : goal.returns
returns c = λ below above e.
    let g = c.args.gain in
    let l = c.args.self.now.at_left in
    let r = c.args.self.now.at_right in
    let q = c.requires in
    let re : c.next_part.result ≡ g.re +ℤ (r.re -ℤ l.re) = omega (arith, ints, c.next_part.ensures, q.gain.re, q.gain.span, q.left.re, q.left_span, q.right.re, q.right_span) in
    let im : c.next_part-2.result ≡ g.im +ℤ (r.im -ℤ l.im) = omega (arith, ints, c.next_part-2.ensures, q.gain.im, q.gain.span, q.left.im, q.left_span, q.right.im, q.right_span) in
    let re_fits : FitsSigned w64 c.next_part.result = omega (arith, ints, re, q.gain.re, q.gain.span, q.left.re, q.left_span, q.right.re, q.right_span) in
    let im_fits : FitsSigned w64 c.next_part-2.result = omega (arith, ints, im, q.gain.im, q.gain.span, q.left.im, q.left_span, q.right.im, q.right_span) in
    next_between l r g below above (to_z w64 (of_z w64 c.next_part.result)) (to_z w64 (of_z w64 c.next_part-2.result)) e (to_z-of_z w64 c.next_part.result re_fits ∙ re) (to_z-of_z w64 c.next_part-2.result im_fits ∙ im)
