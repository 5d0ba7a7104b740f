use Rattle.std.proofs.Common.{◌≡◌, ◌+◌, ◌-◌, ◌*◌, ◌<◌, ◌≤◌, ◌%◌, ℕ, ◌++◌}
use Rattle.spec_words.specs.Bits.{spelled}
use Rattle.mode_set.specs.StreamTable.{steps_in_period}
use Rattle.puncture.specs.Steps.{bits_of_steps}
use Rattle.puncture.proofs.eight_steps.punctured.Given as goal

abbrev pub invariant-loop-step : goal.invariant-loop-step
invariant-loop-step l = record {
  within : l.place < steps_in_period l.rate;
  few : l.bits.count ≤ 2 * l.step;
  place : (t : ℕ) → l.start ≡ t % steps_in_period l.rate → l.place ≡ (t + l.step) % steps_in_period l.rate;
  bits : (t : ℕ) → l.start ≡ t % steps_in_period l.rate
      → spelled l.bits.count l.bits.word ++ bits_of_steps l.rate (t + l.step) (spelled (8 - l.step) l.x) (spelled (8 - l.step) l.y) ≡ bits_of_steps l.rate t (spelled 8 l.x) (spelled 8 l.y);
}
