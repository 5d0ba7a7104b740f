-- The word's bit is the sequence's at the position in the period.
use Rattle.std.proofs.Common.{ap, ◌∙◌, ◌%◌, ◌/◌, ◌^◌, List, ℕ, get_or}
use Rattle.std.specs.Prelude.{◌==◌}
use Rattle.std.proofs.lemmas.Nat.{and_mask}
use Rattle.pilots.specs.Tables.{in_set}
use Rattle.pilots.proofs.References.{held_at}
use Rattle.pilots.proofs.sequence.reference.Goals as goal

pub returns : goal.returns
unfolding in_set
returns c = rw (and_mask _ 1) (ap (λ (xs : List ℕ). get_or xs (c.args.k % 2047 / 64) 0 / 2 ^ (c.args.k % 2047 % 64) % 2 == 1) c.bits.ensures ∙ held_at c.args.k)
