use Rattle.std.proofs.Common.{◌≡◌, length}
use Rattle.std.specs.Prelude.{All}
use Rattle.measure_comparison.specs.Kept.{IsWhole}
use Rattle.measure_comparison.proofs.comparer.room_for_symbols.Given as goal

abbrev pub invariant-loop-k : goal.invariant-loop-k
invariant-loop-k l = (length l.kept.items ≡ l._k) × All (IsWhole l.carriers) l.kept.items
