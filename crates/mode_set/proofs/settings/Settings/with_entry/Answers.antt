-- The two differ at most in the proof of the invariant.
use Rattle.std.proofs.Common.{ap}
use Rattle.mode_set.specs.Kept.{IsKept}
use Rattle.mode_set.specs.Entries.{with_entry}
use Rattle.mode_set.proofs.Keeping.{settings_prop}
use Rattle.mode_set.proofs.settings.Settings.with_entry.Goals as goal

pub returns : goal.returns
returns c =
    let s = c.args.self.now in
    let e = c.args.entry.now in
    ap (λ (k : IsKept e.shape e.hierarchy e.rate_lp s.workers s.max_symbols). record (with_entry s e) { kept = k }) (settings_prop e.shape e.hierarchy e.rate_lp s.workers s.max_symbols _ (with_entry s e).kept)
