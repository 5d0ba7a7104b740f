use Rattle.std.proofs.Common.{arith, ap, ap₂, min, ◌∙◌, ◌+◌, ◌≡◌, slice_index, take, drop}
use Rattle.bit_margin.proofs.Lanes.{front_at, least_same, part_at}
use Rattle.bit_margin.proofs.low_margin.least_on_low.Goals as goal

pub least_through-requires-clause-fits : goal.least_through-requires-clause-fits
least_through-requires-clause-fits c = λ k l. omega (arith, front_at 32 c.args.behind.now k l, c.requires.fits k (omega (arith, l)))

pub least_through-requires-2-clause-fits : goal.least_through-requires-2-clause-fits
least_through-requires-2-clause-fits c = λ k l. omega (arith, part_at 32 32 c.args.behind.now k l, c.requires.fits (32 + k) (omega (arith, l)))

pub returns-clause-zero : goal.returns-clause-zero
returns-clause-zero c =
    least_same (λ k. min (slice_index (take 32 c.args.before.now) k + slice_index (take 32 c.args.behind.now) k) 65535) (λ k. min (slice_index c.args.before.now (k + 0) + slice_index c.args.behind.now (k + 0)) 65535) 32 c.least_through.result
    (λ k l. let e : k ≡ k + 0 = omega arith in ap₂ (λ x y. min (x + y) 65535) (front_at 32 c.args.before.now k l ∙ ap (slice_index c.args.before.now) e) (front_at 32 c.args.behind.now k l ∙ ap (slice_index c.args.behind.now) e)) c.least_through.ensures

pub returns-clause-one : goal.returns-clause-one
returns-clause-one c =
    least_same (λ k. min (slice_index (take 32 (drop 32 c.args.before.now)) k + slice_index (take 32 (drop 32 c.args.behind.now)) k) 65535) (λ k. min (slice_index c.args.before.now (k + 32) + slice_index c.args.behind.now (k + 32)) 65535) 32 c.least_through-2.result
    (λ k l. let e : 32 + k ≡ k + 32 = omega arith in ap₂ (λ x y. min (x + y) 65535) (part_at 32 32 c.args.before.now k l ∙ ap (slice_index c.args.before.now) e) (part_at 32 32 c.args.behind.now k l ∙ ap (slice_index c.args.behind.now) e)) c.least_through-2.ensures
