-- The values of the keys are those of the entry.
use Rattle.std.proofs.Common.{◌∙◌, sym, ap}
use Rattle.std.specs.Prelude.{is_ok}
use Rattle.toml.specs.View.{table_view}
use Rattle.mode_set.proofs.Planned.{entry_made, ok_is}
use Rattle.mode_set.proofs.plan_key.entry.Goals as goal

pub returns : goal.returns
returns c =
    entry_made (table_view c.args.table.now) c.in_ok-after.after c.in_ok-shape.shape c.in_ok-hierarchy.hierarchy c.in_ok-rate_hp.rate_hp c.in_ok-rate_lp.rate_lp _ (sym c.keys_are_of_entry.ensures ∙ c.if-not-keys_are_of_entry.false) (sym c.after.ensures ∙ c.in_ok-after.was)
    (sym c.required_word.ensures ∙ ok_is _ _ (sym c.ok.ensures.value ∙ c.in_ok-shape.was))
    (sym c.word_or.ensures ∙ ok_is _ _ (sym c.ok-2.ensures.value ∙ c.in_ok-hierarchy.was))
    (sym c.required_word-2.ensures ∙ ok_is _ _ (sym c.ok-3.ensures.value ∙ c.in_ok-rate_hp.was))
    (sym c.word_if_present.ensures ∙ ok_is _ _ (sym c.ok-4.ensures.value ∙ c.in_ok-rate_lp.was))
    (sym c.check_fit.ensures.fits ∙ ap is_ok (ok_is _ _ (sym c.ok-5.ensures.value ∙ c.in_ok-ok.was)))
