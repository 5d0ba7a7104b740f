-- The symbols so far.
use Rattle.std.proofs.Common.{◌≡◌, ℕ, ◌<◌, length, get_or}
use Rattle.std.specs.Prelude.{pos}
use Rattle.tracking.specs.InTime.{place, symbol_at}
use Rattle.track_comb_gains.specs.Shares.{IsKept}
use Rattle.track_comb_gains.proofs.gains.symbols_at.Given as goal

abbrev pub invariant-loop-i : goal.invariant-loop-i
invariant-loop-i l = record {
  long : length l.symbols ≡ 4;
  are : (k : ℕ) → k < l.i → (get_or l.taps k (pos 0) ≡ pos 0 → ⊥) → get_or l.symbols k 0 ≡ symbol_at l.m (place l.d k);
  kept : (k : ℕ) → k < l.i → IsKept l.count (get_or l.symbols k 0);
}
