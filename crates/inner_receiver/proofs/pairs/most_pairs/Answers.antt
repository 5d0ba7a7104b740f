use Rattle.std.proofs.Common.{ℕ, ◌*◌, ◌/◌, Bool, sym, ap, ◌∙◌}
use Rattle.std.specs.Prelude.{if◌then◌else◌}
use Rattle.mode_set.specs.declared.modes.Stream.TheVariants.{Hp, Lp}
use Rattle.inner_receiver.specs.Rooms.{most_steps, most_pairs}
use Rattle.inner_receiver.proofs.pairs.most_pairs.Goals as goal

pub returns-in-Hp-clause-most : goal.returns-in-Hp-clause-most
returns-in-Hp-clause-most c = ap (λ (n : ℕ). 21 * n / 4) c.payload.ensures ∙ ap (λ (b : Bool). if b then most_steps c.args.settings.now.mode Hp else 0) (sym (c.settings.ensures.hp c.args.settings.now)) ∙ ap (most_pairs c.args.settings.now) (sym c.in-Hp.is)

pub returns-in-Lp-clause-most : goal.returns-in-Lp-clause-most
returns-in-Lp-clause-most c =
    ap (λ (n : ℕ). 7 * n / 2) c.payload-in-Lp.ensures
    ∙ ap (λ (b : Bool). if b then most_steps c.args.settings.now.mode Lp else 0) (sym c.if-has_lp.true ∙ c.has_lp.ensures ∙ sym (c.settings.ensures.lp c.args.settings.now)) ∙ ap (most_pairs c.args.settings.now) (sym c.in-Lp.is)

pub returns-in-Lp-2-clause-most : goal.returns-in-Lp-2-clause-most
returns-in-Lp-2-clause-most c = ap (λ (b : Bool). if b then most_steps c.args.settings.now.mode Lp else 0) (sym c.if-has_lp.false ∙ c.has_lp.ensures ∙ sym (c.settings.ensures.lp c.args.settings.now)) ∙ ap (most_pairs c.args.settings.now) (sym c.in-Lp.is)
