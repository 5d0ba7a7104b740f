-- The two differ at most in the proof of the invariant.
use Rattle.std.proofs.Common.{ap}
use Rattle.mode_set.specs.Kept.{IsKeptEntry}
use Rattle.mode_set.specs.Entries.{top}
use Rattle.mode_set.proofs.Keeping.{entry_prop}
use Rattle.mode_set.proofs.entries.own.Goals as goal

pub returns : goal.returns
returns c =
    let s = c.args.settings.now in
    ap (λ (k : IsKeptEntry s.shape s.hierarchy s.rate_lp). record (top s) { kept = k }) (entry_prop s.shape s.hierarchy s.rate_lp _ (top s).kept)
