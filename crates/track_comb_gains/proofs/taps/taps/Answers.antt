-- A row of the table, and its size.
use Rattle.std.proofs.Common.{◌≡◌, ℕ, ◌+◌, ◌*◌, ◌≤◌, List, [], get_or, ap, sym, ◌∙◌, subst}
use Rattle.std.specs.Prelude.{ℤ}
use Rattle.track_cells.specs.Sizes.{size_to}
use Rattle.track_comb_gains.proofs.TapTables.{row_is, row_is_small}
use Rattle.track_comb_gains.proofs.taps.taps.Goals as goal

pub returns-clause-is : goal.returns-clause-is
returns-clause-is c = ap (λ (z : List (List ℤ)). get_or z (16 * c.args.d + c.args.n) []) c.table.ensures ∙ row_is c.args.motion c.args.d c.args.n c.requires.d c.requires.n

pub returns-clause-small : goal.returns-clause-small
returns-clause-small c = subst (λ (z : List (List ℤ)). size_to 4 (get_or z (16 * c.args.d + c.args.n) []) ≤ 5620) (sym c.table.ensures) (row_is_small c.args.motion c.args.d c.args.n c.requires.d c.requires.n)
