use Rattle.std.proofs.Common.{◌≡◌, ◌≤◌, ◌-◌, ◌/◌, length}
use Rattle.std.specs.Prelude.{vec_capacity}
use Rattle.receiver.proofs.Pending.{CollectsTo}
use Rattle.receiver.proofs.words.collect.Given as goal

abbrev pub invariant-loop-taken : goal.invariant-loop-taken
invariant-loop-taken l = (l.taken ≤ l.all) × (l.all ≡ length l.initial.branch.wait / 8)
    × CollectsTo l.initial.branch l.initial.outer (vec_capacity l.initial.slots) l.taken l.branch l.outer l.slots.items (vec_capacity l.slots)

abbrev pub decreases-loop-taken : goal.decreases-loop-taken
decreases-loop-taken l = l.all - l.taken
