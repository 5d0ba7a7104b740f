use Rattle.std.proofs.Common.{Bool, sym, ap, ◌∙◌}
use Rattle.std.specs.Prelude.{if◌then◌else◌, Some, None}
use Rattle.mode_set.specs.declared.modes.Stream.TheVariants.{Lp}
use Rattle.symbol_parameters.specs.Spans.{exists_in}
use Rattle.inner_receiver.specs.Seen.{CostsState}
use Rattle.inner_receiver.proofs.cells.SymbolCosts.where_lp.Goals as goal

pub returns-then-has_lp : goal.returns-then-has_lp
returns-then-has_lp g c = ap (λ (b : Bool). if b then Some c.args.of_lp else None) (sym c.if-has_lp.true ∙ c.has_lp.ensures ∙ sym (c.settings.ensures.lp c.self.inside.settings)) ∙ ap (λ (z : CostsState). if exists_in z.settings Lp then Some c.args.of_lp else None) c.self.view_is

pub returns-else-has_lp : goal.returns-else-has_lp
returns-else-has_lp g c = ap (λ (b : Bool). if b then Some c.args.of_lp else None) (sym c.if-has_lp.false ∙ c.has_lp.ensures ∙ sym (c.settings.ensures.lp c.self.inside.settings)) ∙ ap (λ (z : CostsState). if exists_in z.settings Lp then Some c.args.of_lp else None) c.self.view_is
