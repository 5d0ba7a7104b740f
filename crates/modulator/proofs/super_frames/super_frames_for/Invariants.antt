-- The words up to the last change seen are too few; the entries before it have begun there, the others have not.
use Rattle.std.proofs.Common.{◌≡◌, ◌<◌}
use Rattle.mode_set.specs.Plans.{entries_of}
use Rattle.symbol_parameters.specs.Spans.{words_before}
use Rattle.modulator.proofs.Changes.{IsBetween}
use Rattle.modulator.proofs.super_frames.super_frames_for.Given as goal

abbrev pub invariant-loop-i : goal.invariant-loop-i
invariant-loop-i l = (l.carried ≡ words_before l.settings l.stream l.start) × (l.carried < l.wanted) × IsBetween (entries_of l.settings.plan) l.i l.start
