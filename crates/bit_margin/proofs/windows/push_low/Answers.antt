use Rattle.std.proofs.Common.{arith, refl, take, ◌+◌}
use Rattle.std.specs.Prelude.{None}
use Rattle.bit_margin.specs.Sums.{row}
use Rattle.bit_margin.proofs.Ahead.{ahead_none}
use Rattle.bit_margin.proofs.Passes.{ahead_at, appended_at, appended_more, appended_none, margin_low}
use Rattle.bit_margin.proofs.windows.push_low.Goals as goal

pub loop-t-init : goal.loop-t-init
loop-t-init c = record {
  low = ahead_none c.no_sums-before.result c.no_sums-before.ensures;
  appended = appended_none None c.args.window.now c.args.to.now.items;
  len = omega arith;
  capacity = refl;
}

pub step_on-requires : goal.step_on-requires
step_on-requires c = record { low = (take c.loop-t.t c.args.window.now, c.loop-t.invariant.low) }

pub margin_between-requires-clause-before : goal.margin_between-requires-clause-before
margin_between-requires-clause-before c = (c.step_on.ensures.step (take c.loop-t.t c.args.window.now) c.loop-t.invariant.low).small

pub margin_between-requires-clause-behind : goal.margin_between-requires-clause-behind
margin_between-requires-clause-behind c = (c.requires.rows c.loop-t.t (omega arith)).small

pub loop-t-preserved : goal.loop-t-preserved
loop-t-preserved c =
    let w = c.args.window.now in
    let t = c.loop-t.t in
    let after = c.step_on.new.sums in
    record {
      low = ahead_at w t _ c.index-window-t.result _ c.loop-t.before after (omega arith) (omega arith) c.index-window-t.is c.loop-t.invariant.low c.step_on.ensures.step;
      appended =
          appended_at None w (t + 1) _ _ _ (omega arith)
          (appended_more None w t c.margin_between.result _ c.loop-t.to.items _ c.loop-t.invariant.appended c.push_reserved.ensures.items
          (margin_low w t after (row c.args.rows.now t) c.margin_between.result c.requires.few (omega arith) (ahead_at w t (t + 1) c.index-window-t.result _ c.loop-t.before after (omega arith) refl c.index-window-t.is c.loop-t.invariant.low c.step_on.ensures.step) (c.requires.rows t (omega arith)) c.margin_between.ensures));
      len = omega arith;
      capacity = omega arith;
    }

pub returns-clause-margins : goal.returns-clause-margins
returns-clause-margins c = appended_at None c.args.window.now c.loop-t.t c.args.steps _ _ (omega arith) c.loop-t.invariant.appended
