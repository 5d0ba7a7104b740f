use Rattle.std.proofs.Common.{arith, ◌+◌}
use Rattle.bit_margin.proofs.Zipped.{part_at}
use Rattle.bit_margin.proofs.Sixteen.{least_below, least_close}
use Rattle.bit_margin.proofs.lowered.least.Goals as goal

pub returns-clause-below : goal.returns-clause-below
returns-clause-below c =
    let s = c.args.sums.now in
    least_below s c.read.result c.read-2.result c.read-3.result c.read-4.result c.lesser-first.result c.lesser-last.result c.lesser.result c.least_lane.result
    (λ k l. part_at c.read.result s 0 k k c.read.ensures l (omega arith)) (λ k l. part_at c.read-2.result s 16 k (16 + k) c.read-2.ensures l (omega arith))
    (λ k l. part_at c.read-3.result s 32 k (32 + k) c.read-3.ensures l (omega arith)) (λ k l. part_at c.read-4.result s 48 k (48 + k) c.read-4.ensures l (omega arith))
    c.lesser-first.ensures.is c.lesser-last.ensures.is c.lesser.ensures.is c.least_lane.ensures

pub returns-clause-close : goal.returns-clause-close
returns-clause-close c =
    let s = c.args.sums.now in
    least_close s c.read.result c.read-2.result c.read-3.result c.read-4.result c.lesser-first.result c.lesser-last.result c.lesser.result c.least_lane.result
    (λ k l. part_at c.read.result s 0 k k c.read.ensures l (omega arith)) (λ k l. part_at c.read-2.result s 16 k (16 + k) c.read-2.ensures l (omega arith))
    (λ k l. part_at c.read-3.result s 32 k (32 + k) c.read-3.ensures l (omega arith)) (λ k l. part_at c.read-4.result s 48 k (48 + k) c.read-4.ensures l (omega arith))
    c.lesser-first.ensures.is c.lesser-last.ensures.is c.lesser.ensures.is c.least_lane.ensures
