use Rattle.std.proofs.Common.{arith, length, drop, ◌-◌, ◌+◌}
use Rattle.bit_margin.proofs.Passes.{low_start, low_at}
use Rattle.bit_margin.proofs.windows.sums_over.Goals as goal

pub loop-k-init : goal.loop-k-init
loop-k-init c = low_start c.args.pairs.now _ c.no_sums-sums.result (omega arith) c.no_sums-sums.ensures

pub step_back-requires : goal.step_back-requires
step_back-requires c = record { low = (drop (length c.args.pairs.now - c.loop-k.k) c.args.pairs.now, c.loop-k.invariant) }

pub loop-k-preserved : goal.loop-k-preserved
loop-k-preserved c =
    low_at c.args.pairs.now (length c.args.pairs.now - (c.loop-k.k + 1)) (length c.args.pairs.now - c.loop-k.k) _ c.index-pairs-pairs.result c.loop-k.sums c.step_back.new.sums (omega arith) (omega arith) (omega arith) _ c.index-pairs-pairs.is c.loop-k.invariant c.step_back.ensures.step
