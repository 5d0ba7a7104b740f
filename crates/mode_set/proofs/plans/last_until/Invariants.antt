use Rattle.std.proofs.Common.{◌≡◌, take, reverse}
use Rattle.std.specs.Prelude.{find, nat_le}
use Rattle.mode_set.proofs.plans.last_until.Given as goal

abbrev pub invariant-loop-entry : goal.invariant-loop-entry
invariant-loop-entry l = l.last ≡ find (λ e. nat_le e.after l.super_frame) (reverse (take l.entry-index l.entries))
