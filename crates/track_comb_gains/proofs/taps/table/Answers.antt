-- The tables are computed.
use Rattle.std.proofs.Common.{map, ap, sym, ◌∙◌}
use Rattle.spec_words.specs.Words.{numbers}
use Rattle.tracking.specs.declared.motion.Motion.{Motion}
use Rattle.track_comb_gains.specs.Kept.{kept_taps}
use Rattle.track_comb_gains.proofs.TapTables.{slow_is, fast_is}
use Rattle.track_comb_gains.proofs.taps.table.Goals as goal

pub returns-in-Slow : goal.returns-in-Slow
returns-in-Slow c = slow_is ∙ ap (λ (f : Motion). map (kept_taps f) (numbers 64)) (sym c.in-Slow.is)

pub returns-in-Fast : goal.returns-in-Fast
returns-in-Fast c = fast_is ∙ ap (λ (f : Motion). map (kept_taps f) (numbers 64)) (sym c.in-Fast.is)
