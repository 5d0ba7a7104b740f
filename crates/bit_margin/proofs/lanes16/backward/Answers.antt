use Rattle.std.proofs.Common.{arith, ◌+◌}
use Rattle.bit_margin.proofs.Zipped.{even_at, joined_backward, odd_at, part_at}
use Rattle.bit_margin.proofs.lanes16.backward.Goals as goal

pub from_both-requires-clause-zero_fit : goal.from_both-requires-clause-zero_fit
from_both-requires-clause-zero_fit c = λ k l. omega (arith, part_at c.read.result c.args.sums.now 0 k k c.read.ensures l (omega arith), c.requires.fit k (omega arith))

pub from_both-requires-clause-one_fit : goal.from_both-requires-clause-one_fit
from_both-requires-clause-one_fit c = λ k l. omega (arith, part_at c.read-2.result c.args.sums.now 32 k (32 + k) c.read-2.ensures l (omega arith), c.requires.fit (32 + k) (omega arith))

pub from_both-requires-2-clause-zero_fit : goal.from_both-requires-2-clause-zero_fit
from_both-requires-2-clause-zero_fit c = λ k l. omega (arith, part_at c.read-3.result c.args.sums.now 16 k (16 + k) c.read-3.ensures l (omega arith), c.requires.fit (16 + k) (omega arith))

pub from_both-requires-2-clause-one_fit : goal.from_both-requires-2-clause-one_fit
from_both-requires-2-clause-one_fit c = λ k l. omega (arith, part_at c.read-4.result c.args.sums.now 48 k (48 + k) c.read-4.ensures l (omega arith), c.requires.fit (48 + k) (omega arith))

pub returns : goal.returns
returns c =
    let p = c.args.pair in
    let old = c.args.sums.now in
    let near = c.first_costs.ensures p c.four_costs-costs.ensures in
    let far = c.last_costs.ensures p c.four_costs-costs.ensures in
    let a = c.from_both.result.0 in
    let b = c.from_both.result.1 in
    let g = c.from_both-2.result.0 in
    let h = c.from_both-2.result.1 in
    record {
      step =
          joined_backward p old a b g h c.from_both.ensures.first_len c.from_both.ensures.last_len c.from_both-2.ensures.first_len c.from_both-2.ensures.last_len c.store_all.new.sums c.store_all.ensures
          (even_at p old c.read.result c.read-2.result c.first_costs.result.0 c.first_costs.result.1 a b 0 near (λ k l. part_at c.read.result old 0 k (0 + k) c.read.ensures l (omega arith)) (λ k l. part_at c.read-2.result old 32 k (0 + k + 32) c.read-2.ensures l (omega arith)) c.from_both.ensures.even)
          (odd_at p old c.read.result c.read-2.result c.first_costs.result.0 c.first_costs.result.1 a b 0 near (λ k l. part_at c.read.result old 0 k (0 + k) c.read.ensures l (omega arith)) (λ k l. part_at c.read-2.result old 32 k (0 + k + 32) c.read-2.ensures l (omega arith)) c.from_both.ensures.odd)
          (even_at p old c.read-3.result c.read-4.result c.last_costs.result.0 c.last_costs.result.1 g h 16 far (λ k l. part_at c.read-3.result old 16 k (16 + k) c.read-3.ensures l (omega arith)) (λ k l. part_at c.read-4.result old 48 k (16 + k + 32) c.read-4.ensures l (omega arith)) c.from_both-2.ensures.even)
          (odd_at p old c.read-3.result c.read-4.result c.last_costs.result.0 c.last_costs.result.1 g h 16 far (λ k l. part_at c.read-3.result old 16 k (16 + k) c.read-3.ensures l (omega arith)) (λ k l. part_at c.read-4.result old 48 k (16 + k + 32) c.read-4.ensures l (omega arith)) c.from_both-2.ensures.odd);
    }
