-- The points so far have their pilots.
use Rattle.std.proofs.Common.{◌≡◌, ℕ, ◌<◌, ◌^◌, length, get_or}
use Rattle.track_arithmetic.specs.Laws.{IsWithin}
use Rattle.track_arithmetic.specs.Numbers.{nothing}
use Rattle.tracking.specs.Comb.{pilot}
use Rattle.track_pilots.proofs.pilots_of_symbol.take_pilots.Given as goal

abbrev pub invariant-loop-j : goal.invariant-loop-j
invariant-loop-j l = record {
  long : length l.row ≡ length l.initial.row;
  is : (k : ℕ) → k < l.j → get_or l.row k nothing ≡ pilot l.cells k;
  within : (k : ℕ) → k < l.j → IsWithin (2 ^ 15) (get_or l.row k nothing);
}
