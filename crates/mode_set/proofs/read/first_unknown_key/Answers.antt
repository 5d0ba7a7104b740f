-- The index in the map is the index in the document.
use Rattle.std.proofs.Common.{◌∙◌, IfSome, sym, ◌≤◌, subst}
use Rattle.mode_set.proofs.Unknown.{place, few, ascending}
use Rattle.mode_set.proofs.read.first_unknown_key.Goals as goal

pub returns-clause-place : goal.returns-clause-place
returns-clause-place c = c.place_of_unknown.ensures.place ∙ place c.args.table.now.entries

pub returns-clause-few : goal.returns-clause-few
returns-clause-few c = subst (λ o. IfSome o (λ n. n ≤ 11)) (sym (c.place_of_unknown.ensures.place ∙ place c.args.table.now.entries)) (few c.args.table.now.entries c.place_of_unknown.ensures.ordered)

pub returns-clause-byte_order : goal.returns-clause-byte_order
returns-clause-byte_order c = ascending c.args.table.now.entries c.place_of_unknown.ensures.ordered
