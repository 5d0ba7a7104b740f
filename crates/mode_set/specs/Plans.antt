-- A plan as the list of its entries.
use Rattle.std.specs.Prelude.{◌≡◌, Bool, true, false, List, [], length, take, Option, Some, None, refl}
use Rattle.std.proofs.Common.{arith}
use Rattle.mode_set.specs.KeptBy.{kept_plan}
use Rattle.mode_set.specs.PlanList.{filled, IsFilled, is_plan}
use Rattle.mode_set.specs.declared.entry.Entry.{Entry}
use Rattle.mode_set.specs.declared.plan.Plan.{Plan}

-- the entries of a plan, without the padding
abbrev pub entries_of : Plan → List Entry
entries_of p = take p.count p.entries

-- a plan without entries satisfies its invariant
pub nothing_is_filled : IsFilled 0 (filled [])
nothing_is_filled = record { few = omega arith; long = refl; rest = refl; rising = refl }

-- the plan without entries
abbrev pub no_plan : Plan
no_plan = record { entries = filled []; count = 0; kept = nothing_is_filled }

-- the plan of these entries, if they are valid
abbrev pub plan_if : (es : List Entry) → (fits : Bool) → (fits ≡ true → IsFilled (length es) (filled es)) → Option Plan
plan_if es true kept = Some (record { entries = filled es; count = length es; kept = kept refl })
plan_if es false kept = None

-- the plan of a list of entries, if it is valid
abbrev pub plan_of : List Entry → Option Plan
plan_of es = plan_if es (is_plan es) (kept_plan es)
