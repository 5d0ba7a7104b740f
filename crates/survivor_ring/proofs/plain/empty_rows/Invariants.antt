use Rattle.std.proofs.Common.{◌≡◌, ◌<◌, ℕ, length, Bool, get_or}
use Rattle.std.specs.Global.{Vec}
use Rattle.survivor_ring.proofs.plain.empty_rows.Given as goal

abbrev pub invariant-loop-k : goal.invariant-loop-k
invariant-loop-k l = (length l.rows.items ≡ l._k) × ((k : ℕ) (d : Vec Bool) → k < l._k → length (get_or l.rows.items k d).items ≡ l.len)
