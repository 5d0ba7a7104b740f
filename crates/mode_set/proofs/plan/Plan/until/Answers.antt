-- No number is 0.
use Rattle.std.proofs.Common.{◌∙◌, ap, ℕ, take, reverse}
use Rattle.std.specs.Prelude.{find, nat_le}
use Rattle.mode_set.proofs.Pushing.{none_at_first}
use Rattle.mode_set.proofs.plan.Plan.until.Goals as goal

pub returns-clause-first : goal.returns-clause-first
returns-clause-first c =
    let p = c.args.self.now in
    λ zero. c.last_until.ensures ∙ ap (λ (n : ℕ). find (λ e. nat_le e.after n) (reverse (take p.count p.entries))) zero ∙ none_at_first (take p.count p.entries) p.kept.rising
