-- A plan has one entry or more.
use Rattle.std.proofs.Common.{◌∙◌, sym}
use Rattle.toml.specs.View.{view, items_view}
use Rattle.mode_set.specs.PlanKey.{entries_in}
use Rattle.mode_set.proofs.Planned.{some_is, empty_is, no_plan_is, array_is, of_array}
use Rattle.mode_set.proofs.plan_key.plan.Goals as goal

pub returns-in_err-plan : goal.returns-in_err-plan
returns-in_err-plan c =
    of_array (view c.args.value.now) (items_view c.deref.result.now) _ (array_is _ c.as_array.result c.in_ok-as_array.field-0 c.deref.result.now c.as_array.ensures c.in_ok-as_array.was c.deref.ensures.value)
    (c.from_residual-in_err-plan.ensures ∙ no_plan_is (entries_in (items_view c.deref.result.now)) (sym c.entries.ensures ∙ c.in_err-plan.was))

pub returns-then-len-eq0 : goal.returns-then-len-eq0
returns-then-len-eq0 c =
    of_array (view c.args.value.now) (items_view c.deref.result.now) _ (array_is _ c.as_array.result c.in_ok-as_array.field-0 c.deref.result.now c.as_array.ensures c.in_ok-as_array.was c.deref.ensures.value)
    (empty_is (entries_in (items_view c.deref.result.now)) c.in_ok-plan.plan (sym c.entries.ensures ∙ c.in_ok-plan.was) (sym c.len.ensures.is ∙ c.if-len-eq0.true))

pub returns : goal.returns
returns c =
    of_array (view c.args.value.now) (items_view c.deref.result.now) _ (array_is _ c.as_array.result c.in_ok-as_array.field-0 c.deref.result.now c.as_array.ensures c.in_ok-as_array.was c.deref.ensures.value)
    (some_is (entries_in (items_view c.deref.result.now)) c.in_ok-plan.plan (sym c.entries.ensures ∙ c.in_ok-plan.was) (λ none. c.if-len-eq0.false (c.len.ensures.is ∙ none)))
