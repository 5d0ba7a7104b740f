use Rattle.std.proofs.Common.{arith, ◌∙◌, refl, drop, length-set, ◌-◌, ◌+◌}
use Rattle.bit_margin.proofs.Passes.{rows_more, low_at, low_same}
use Rattle.bit_margin.proofs.windows.keep_backward.Goals as goal

pub loop-k-init : goal.loop-k-init
loop-k-init c = record {
  size = refl;
  sums = low_same c.args.window.now c.args.steps _ _ (omega arith) c.requires.behind;
  rows = λ t l m. absurd (omega arith);
}

pub step_back-requires : goal.step_back-requires
step_back-requires c = record { low = (drop (c.args.steps - c.loop-k.k) c.args.window.now, c.loop-k.invariant.sums) }

pub loop-k-preserved : goal.loop-k-preserved
loop-k-preserved c = record {
  size = length-set c.loop-k.rows _ _ ∙ c.loop-k.invariant.size;
  sums = low_at c.args.window.now (c.args.steps - (c.loop-k.k + 1)) (c.args.steps - c.loop-k.k) _ c.index-window-t.result c.loop-k.sums c.step_back.new.sums (omega arith) (omega arith) (omega arith) _ c.index-window-t.is c.loop-k.invariant.sums c.step_back.ensures.step;
  rows = rows_more c.args.window.now c.loop-k.rows c.args.steps (c.args.steps - (c.loop-k.k + 1)) (c.args.steps - c.loop-k.k) (c.args.steps - 1 - c.loop-k.k) c.loop-k.sums (omega arith) (omega arith) (omega (arith, c.loop-k.invariant.size)) c.loop-k.invariant.sums c.loop-k.invariant.rows;
}

pub returns-clause-rows : goal.returns-clause-rows
returns-clause-rows c = λ t l. c.loop-k.invariant.rows t (omega arith) l
