use Rattle.std.proofs.Common.{◌∙◌, ap}
use Rattle.trial.specs.Drawn.{trial_frames}
use Rattle.trial.specs.State.{TrialOf}
use Rattle.trial.proofs.whole.Trial.super_frames.Goals as goal

pub returns : goal.returns
returns g c = c.super_frames.ensures ∙ ap (λ (t : TrialOf). trial_frames t.settings t.number) c.self.view_is
