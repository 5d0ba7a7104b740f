-- No errors at the positions so far and at any other one have the syndrome.
use Rattle.std.proofs.Common.{ℕ, ◌<◌, ◌≡◌}
use Rattle.std.specs.Prelude.{bit_xor}
use Rattle.tps_bch.specs.Syndromes.{syndrome_at}
use Rattle.tps_bch.proofs.syndromes.places_of.Given as goal

abbrev pub invariant-loop-i : goal.invariant-loop-i
invariant-loop-i l = (k j : ℕ) → k < l.i → j < 67 → bit_xor (syndrome_at k) (syndrome_at j) ≡ l.syndrome → ⊥
