use Rattle.std.proofs.Common.{◌≡◌, ◌*◌, ◌++◌, take, drop}
use Rattle.measure_known_bits.proofs.moving.move_bytes.Given as goal

abbrev pub invariant-loop-k : goal.invariant-loop-k
invariant-loop-k l = (l.from ≡ drop (8 * l._k) l.initial.from) × (l.to ≡ l.initial.to ++ take (8 * l._k) l.initial.from)
