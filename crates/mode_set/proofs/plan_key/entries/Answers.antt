-- One value after another.
use Rattle.std.proofs.Common.{◌∙◌, sym, ap, Some, arith}
use Rattle.mode_set.proofs.Planned.{entry_is, none_is, late_is, all_are}
use Rattle.mode_set.proofs.plan_key.entries.Goals as goal

pub returns-in_err-entry_of : goal.returns-in_err-entry_of
returns-in_err-entry_of c = c.from_residual.ensures ∙ sym (none_is c.args.values.now c.loop-value.value-index c.value-item.result c.loop-value-test.true c.value-item.is _ c.loop-value.invariant (sym c.entry_of.ensures ∙ c.in_err-entry_of.was))

pub returns-then-not-push : goal.returns-then-not-push
returns-then-not-push c =
    sym (late_is c.args.values.now c.loop-value.value-index c.value-item.result c.loop-value-test.true c.value-item.is _ c.loop-value.invariant _ (sym c.entry_of.ensures ∙ c.in_ok-entry_of.was) (sym c.push.ensures.tells ∙ c.if-not-push.true))

pub loop-value-preserved : goal.loop-value-preserved
loop-value-preserved c =
    entry_is c.args.values.now c.loop-value.value-index c.value-item.result c.loop-value-test.true c.value-item.is _ c.loop-value.invariant _ (sym c.entry_of.ensures ∙ c.in_ok-entry_of.was) ∙ ap Some (sym (c.push.ensures.pushed c.if-not-push.false))

pub returns : goal.returns
returns c = all_are c.args.values.now c.loop-value.value-index c.loop-value.plan (let t = c.loop-value-test.false in omega (arith, t)) c.loop-value.invariant
