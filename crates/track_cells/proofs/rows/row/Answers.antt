-- The entry of the table, and its size.
use Rattle.std.proofs.Common.{◌≡◌, ℕ, ◌≤◌, ◌<◌, List, [], get_or, ap, sym, ◌∙◌, subst}
use Rattle.std.specs.Prelude.{ℤ}
use Rattle.tracking.specs.InFrequency.{frequency_row}
use Rattle.track_cells.specs.Sizes.{size_to}
use Rattle.track_cells.proofs.Tables.{entry, row_is_small}
use Rattle.track_cells.proofs.rows.row.Goals as goal

pub returns-clause-is : goal.returns-clause-is
returns-clause-is c = ap (λ (z : List (List ℤ)). get_or z c.args.t []) c.rows.ensures ∙ entry (frequency_row c.args.guard) 34 c.args.t [] c.requires

pub returns-clause-small : goal.returns-clause-small
returns-clause-small c = subst (λ (z : List ℤ). size_to 12 z ≤ 58154) (sym (returns-clause-is c)) (row_is_small c.args.guard c.args.t c.requires)
