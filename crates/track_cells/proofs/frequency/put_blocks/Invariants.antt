-- The carriers so far have their gains.
use Rattle.std.proofs.Common.{◌≡◌, ℕ, ◌+◌, ◌*◌, length}
use Rattle.track_arithmetic.specs.declared.complex.Complex.{Complex}
use Rattle.track_cells.specs.Gains.{AreCentred, AreGains, AreSmall}
use Rattle.track_cells.proofs.frequency.put_blocks.Given as goal

abbrev pub invariant-loop-b : goal.invariant-loop-b
invariant-loop-b l = record {
  long : length l.to ≡ length l.initial.to;
  is : (gains : ℕ → Complex) → AreCentred l.guard l.mode gains l.centred → AreGains l.guard l.mode gains 15 l.initial.to → AreGains l.guard l.mode gains (15 + 192 * l.b) l.to;
  within : AreSmall 15 l.initial.to → AreSmall (15 + 192 * l.b) l.to;
}
