-- The places so far have their lesser changes.
use Rattle.std.proofs.Common.{◌≡◌, ℕ, ◌<◌, ◌≤◌, ◌^◌, length, get_or}
use Rattle.tracking.specs.BadSymbols.{lesser_change}
use Rattle.tracking.specs.Comb.{Comb}
use Rattle.tracking.specs.InTime.{symbol_at}
use Rattle.track_motion.specs.Places.{end_place, first_place, HasChanges}
use Rattle.track_motion.proofs.changes.lesser_changes.Given as goal

abbrev pub invariant-loop-p : goal.invariant-loop-p
invariant-loop-p l = record {
  long : length l.lesser ≡ 16;
  is : (c : Comb) (m p : ℕ) → HasChanges c m l.changes → l.first ≡ first_place m → l.end ≡ end_place c.count m → m < c.count → l.first ≤ p → p < l.end → p < l.p → get_or l.lesser p 0 ≡ lesser_change c m (symbol_at m p);
  most : (p : ℕ) → p < l.p → get_or l.lesser p 0 ≤ 2 ^ 44;
}
