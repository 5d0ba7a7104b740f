use Rattle.std.proofs.Common.{List, Bool, sym, subst}
use Rattle.inner_chain.specs.Tables.{AreRows}
use Rattle.inner_chain.proofs.Encoding.{no_rows, rows_more}
use Rattle.inner_chain.proofs.parities.rows.Goals as goal

pub loop-number-init : goal.loop-number-init
loop-number-init c = subst (λ (z : List (List Bool)). AreRows z 0) (sym c.in_ok-list.ensures.items) no_rows

pub loop-number-preserved : goal.loop-number-preserved
loop-number-preserved c = rows_more _ _ _ _ c.loop-number.invariant c.in_ok-push.ensures.items c.row.ensures
