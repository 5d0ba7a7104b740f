-- The carriers so far are appended.
use Rattle.std.proofs.Common.{◌≡◌, ℕ, ◌+◌, ◌*◌, ◌%◌, ◌++◌, List}
use Rattle.std.specs.Prelude.{vec_len, vec_capacity}
use Rattle.frame_build.specs.Symbol.{bits_of}
use Rattle.frame_build.specs.State.{labels_before}
use Rattle.frame_build.proofs.Cells.{carrier_bytes}
use Rattle.frame_build.proofs.plain.push_symbol.Given as goal

-- so much was appended, and the room stays
pub record Appended (old new more : List ℕ) (len capacity old_len old_capacity k : ℕ) (next before : ℕ) : Type 0 where
  pub bytes : new ≡ old ++ more
  pub long : len ≡ old_len + 5 * k
  pub room : capacity ≡ old_capacity
  pub labels : next ≡ before

abbrev pub invariant-loop-k : goal.invariant-loop-k
invariant-loop-k g l =
    Appended l.initial.to.items l.to.items (carrier_bytes l.settings l.next l.number (bits_of l.labels) l.k) (vec_len l.to) (vec_capacity l.to) (vec_len l.initial.to) (vec_capacity l.initial.to) l.k
    l.sent (labels_before g.M.Carriers.MODE (l.number % 68) l.k)
