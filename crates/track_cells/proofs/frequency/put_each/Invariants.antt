-- The carriers so far have their gains.
use Rattle.std.proofs.Common.{◌≡◌, ℕ, length}
use Rattle.track_arithmetic.specs.declared.complex.Complex.{Complex}
use Rattle.track_cells.specs.Gains.{AreCentred, AreGains, AreSmall}
use Rattle.track_cells.proofs.frequency.put_each.Given as goal

abbrev pub invariant-loop-k : goal.invariant-loop-k
invariant-loop-k l = record {
  long : length l.to ≡ length l.initial.to;
  is : (gains : ℕ → Complex) → AreCentred l.guard l.mode gains l.centred → AreGains l.guard l.mode gains l.from l.initial.to → AreGains l.guard l.mode gains l.k l.to;
  within : AreSmall l.from l.initial.to → AreSmall l.k l.to;
}
