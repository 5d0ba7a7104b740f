-- The values so far are the plan's entries.
use Rattle.std.proofs.Common.{◌≡◌, take}
use Rattle.std.specs.Prelude.{Some}
use Rattle.toml.specs.View.{items_view}
use Rattle.mode_set.specs.PlanKey.{entries_in}
use Rattle.mode_set.specs.Plans.{entries_of}
use Rattle.mode_set.proofs.plan_key.entries.Given as goal

abbrev pub invariant-loop-value : goal.invariant-loop-value
invariant-loop-value l = entries_in (items_view (take l.value-index l.values)) ≡ Some (entries_of l.plan)
