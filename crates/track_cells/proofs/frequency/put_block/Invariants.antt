-- The carriers so far have their gains.
use Rattle.std.proofs.Common.{◌≡◌, ℕ, ◌+◌, ◌*◌, length}
use Rattle.track_arithmetic.specs.declared.complex.Complex.{Complex}
use Rattle.track_cells.specs.Gains.{AreCentred, AreGains, AreSmall}
use Rattle.track_cells.proofs.frequency.put_block.Given as goal

abbrev pub invariant-loop-n : goal.invariant-loop-n
invariant-loop-n l = record {
  long : length l.to ≡ length l.initial.to;
  is : (gains : ℕ → Complex) → AreCentred l.fn.guard l.fn.mode gains l.centred → AreGains l.fn.guard l.fn.mode gains (15 + 192 * l.b) l.initial.to → AreGains l.fn.guard l.fn.mode gains (15 + 192 * l.b + 3 * l.n) l.to;
  within : AreSmall (15 + 192 * l.b) l.initial.to → AreSmall (15 + 192 * l.b + 3 * l.n) l.to;
}
