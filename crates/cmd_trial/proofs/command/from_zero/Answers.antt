-- The two differ at most in the proof of the invariant.
use Rattle.std.proofs.Common.{ap}
use Rattle.mode_set.specs.Kept.{IsKept}
use Rattle.trial.specs.Outcome.{at_zero}
use Rattle.trial.proofs.Keeping.{kept_prop}
use Rattle.cmd_trial.proofs.command.from_zero.Goals as goal

pub returns : goal.returns
returns c =
    let s = c.args.settings.now in
    ap (λ (k : IsKept s.shape s.hierarchy s.rate_lp s.workers s.max_symbols). record (at_zero s) { kept = k }) (kept_prop s.shape s.hierarchy s.rate_lp s.workers s.max_symbols _ (at_zero s).kept)
