use Rattle.std.proofs.Common.{arith, ◌+◌, ◌∙◌}
use Rattle.bit_margin.proofs.Zipped.{part_at}
use Rattle.bit_margin.proofs.Sixteen.{lowered_all}
use Rattle.bit_margin.proofs.lowered.lower.Goals as goal

pub less-a-requires-clause-high : goal.less-a-requires-clause-high
less-a-requires-clause-high c = λ k l. omega (arith, part_at c.read.result c.args.sums.now 0 k k c.read.ensures l (omega arith), c.least-low.ensures.below k (omega arith))

pub less-a-requires-clause-fits : goal.less-a-requires-clause-fits
less-a-requires-clause-fits c = λ k l. omega (arith, part_at c.read.result c.args.sums.now 0 k k c.read.ensures l (omega arith), c.requires.fits k (omega arith))

pub less-b-requires-clause-high : goal.less-b-requires-clause-high
less-b-requires-clause-high c = λ k l. omega (arith, part_at c.read-2.result c.args.sums.now 16 k (16 + k) c.read-2.ensures l (omega arith), c.least-low.ensures.below (16 + k) (omega arith))

pub less-b-requires-clause-fits : goal.less-b-requires-clause-fits
less-b-requires-clause-fits c = λ k l. omega (arith, part_at c.read-2.result c.args.sums.now 16 k (16 + k) c.read-2.ensures l (omega arith), c.requires.fits (16 + k) (omega arith))

pub less-c-requires-clause-high : goal.less-c-requires-clause-high
less-c-requires-clause-high c = λ k l. omega (arith, part_at c.read-3.result c.args.sums.now 32 k (32 + k) c.read-3.ensures l (omega arith), c.least-low.ensures.below (32 + k) (omega arith))

pub less-c-requires-clause-fits : goal.less-c-requires-clause-fits
less-c-requires-clause-fits c = λ k l. omega (arith, part_at c.read-3.result c.args.sums.now 32 k (32 + k) c.read-3.ensures l (omega arith), c.requires.fits (32 + k) (omega arith))

pub less-d-requires-clause-high : goal.less-d-requires-clause-high
less-d-requires-clause-high c = λ k l. omega (arith, part_at c.read-4.result c.args.sums.now 48 k (48 + k) c.read-4.ensures l (omega arith), c.least-low.ensures.below (48 + k) (omega arith))

pub less-d-requires-clause-fits : goal.less-d-requires-clause-fits
less-d-requires-clause-fits c = λ k l. omega (arith, part_at c.read-4.result c.args.sums.now 48 k (48 + k) c.read-4.ensures l (omega arith), c.requires.fits (48 + k) (omega arith))

pub returns : goal.returns
returns c =
    let s = c.args.sums.now in
    lowered_all c.least-low.result s c.less-a.result c.less-b.result c.less-c.result c.less-d.result c.less-a.ensures.long c.less-b.ensures.long c.less-c.ensures.long c.less-d.ensures.long
    (λ k l. c.less-a.ensures.is k l ∙ part_at c.read.result s 0 k k c.read.ensures l (omega arith))
    (λ k l. c.less-b.ensures.is k l ∙ part_at c.read-2.result s 16 k (16 + k) c.read-2.ensures l (omega arith))
    (λ k l. c.less-c.ensures.is k l ∙ part_at c.read-3.result s 32 k (32 + k) c.read-3.ensures l (omega arith))
    (λ k l. c.less-d.ensures.is k l ∙ part_at c.read-4.result s 48 k (48 + k) c.read-4.ensures l (omega arith))
    c.store_all.new.sums c.store_all.ensures (c.least-low.ensures.close c.requires.close)
