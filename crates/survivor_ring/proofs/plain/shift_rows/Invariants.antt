use Rattle.std.proofs.Common.{◌≡◌, ◌≤◌, ℕ, get_or, Bool}
use Rattle.std.specs.Global.{Vec}
use Rattle.survivor_ring.specs.Rows.{AreSized, EachShifted}
use Rattle.survivor_ring.proofs.plain.shift_rows.Given as goal

abbrev pub invariant-loop-n : goal.invariant-loop-n
invariant-loop-n l = AreSized l.len l.rows.items × EachShifted l.fn.rows.items l.rows.items l.number l.count l.n × ((k : ℕ) (d : Vec Bool) → l.n ≤ k → get_or l.rows.items k d ≡ get_or l.fn.rows.items k d)
