use Rattle.std.proofs.Common.{arith, ap, ap₂, min, ◌∙◌, ◌+◌, slice_index}
use Rattle.bit_margin.proofs.Lanes.{front_at, least_of_both, rest_at}
use Rattle.bit_margin.proofs.low_margin.least_through.Goals as goal

pub capped_sum-first-requires-clause-fits : goal.capped_sum-first-requires-clause-fits
capped_sum-first-requires-clause-fits c = λ k l. omega (arith, ap (λ z. slice_index z k) c.read-2.ensures, front_at 16 c.args.behind.now k l, c.requires.fits k (omega (arith, l)))

pub capped_sum-last-requires-clause-fits : goal.capped_sum-last-requires-clause-fits
capped_sum-last-requires-clause-fits c = λ k l. omega (arith, ap (λ z. slice_index z k) c.read-4.ensures, rest_at 16 c.args.behind.now k (omega (arith, l, c.requires.behind_len)), c.requires.fits (16 + k) (omega (arith, l)))

pub returns : goal.returns
returns c =
    let u = c.args.before.now in
    let v = c.args.behind.now in
    least_of_both (λ k. min (slice_index u k + slice_index v k) 65535) c.capped_sum-first.result c.capped_sum-last.result c.lesser.result c.least_lane.result
    (λ k l. c.capped_sum-first.ensures.is k l ∙ ap₂ (λ x y. min (x + y) 65535) (ap (λ z. slice_index z k) c.read.ensures ∙ front_at 16 u k l) (ap (λ z. slice_index z k) c.read-2.ensures ∙ front_at 16 v k l))
    (λ k l. c.capped_sum-last.ensures.is k l ∙ ap₂ (λ x y. min (x + y) 65535) (ap (λ z. slice_index z k) c.read-3.ensures ∙ rest_at 16 u k (omega (arith, l, c.requires.before_len))) (ap (λ z. slice_index z k) c.read-4.ensures ∙ rest_at 16 v k (omega (arith, l, c.requires.behind_len))))
    c.lesser.ensures.is c.least_lane.ensures
