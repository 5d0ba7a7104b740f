use Rattle.std.proofs.Common.{◌≡◌, sym, ap, unwrap_or, Some, Option, ◌∙◌}
use Rattle.tps_word.specs.declared.word.TpsWord.{TpsWord}
use Rattle.tune_in.proofs.frame.announced_by.Goals as goal

pub returns-clause-none : goal.returns-clause-none
returns-clause-none c = λ e w h.
    let same : Some c.in_ok-word.word ≡ Some w = sym c.in_ok-word.was ∙ c.nearest.ensures.found w h.signals in
    c.of_mode.ensures.none e (ap (λ (o : Option TpsWord). (unwrap_or o w).mode) same ∙ h.mode_is)
