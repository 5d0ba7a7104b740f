use Rattle.std.proofs.Common.{arith, refl, ◌+◌}
use Rattle.bit_margin.specs.Sums.{row}
use Rattle.bit_margin.proofs.Passes.{passed_at, passed_far, passed_fits, passed_low, have_passed}
use Rattle.bit_margin.proofs.windows.push_margins.Goals as goal

pub loop-t-init : goal.loop-t-init
loop-t-init c = record {
  passed = λ s old h. passed_at s c.args.window.now 0 _ c.args.before.now old _ (omega arith) h;
  len = omega arith;
  capacity = refl;
}

pub forward-requires : goal.forward-requires
forward-requires c =
    let h = c.requires.passed in
    record { fit = passed_fits c.args.window.now c.loop-t.t c.loop-t.before c.loop-t.to.items c.requires.few (have_passed h.start _ _ _ h.old _ (c.loop-t.invariant.passed h.start h.old h.passed)) }

pub least_on-zero-requires-clause-small : goal.least_on-zero-requires-clause-small
least_on-zero-requires-clause-small c =
    let h = c.requires.passed in
    passed_far c.args.window.now c.loop-t.t c.loop-t.before c.loop-t.to.items c.index-window-t.result _ c.forward.new.sums c.requires.few (omega arith) c.index-window-t.is (have_passed h.start _ _ _ h.old _ (c.loop-t.invariant.passed h.start h.old h.passed)) c.forward.ensures.step

pub least_on-zero-requires-clause-behind : goal.least_on-zero-requires-clause-behind
least_on-zero-requires-clause-behind c = λ n l. omega (arith, (c.requires.rows c.loop-t.t (omega arith)).small n l)

pub loop-t-preserved : goal.loop-t-preserved
loop-t-preserved c = record {
  passed = λ s old h.
      passed_low s c.args.window.now c.loop-t.t _ c.index-window-t.result _ c.loop-t.before c.forward.new.sums (row c.args.rows.now c.loop-t.t) old c.loop-t.to.items _ c.least_on-zero.result.0 c.least_on-zero.result.1 c.abs_diff.result (omega arith) c.requires.few (omega arith) c.index-window-t.is
      c.forward.ensures.step (c.requires.rows c.loop-t.t (omega arith)) c.least_on-zero.ensures.zero c.least_on-zero.ensures.one c.abs_diff.ensures c.push_reserved.ensures.items (c.loop-t.invariant.passed s old h);
  len = omega arith;
  capacity = omega arith;
}

pub returns-clause-passed : goal.returns-clause-passed
returns-clause-passed c = λ s old h. passed_at s c.args.window.now c.loop-t.t _ _ old _ (omega arith) (c.loop-t.invariant.passed s old h)
