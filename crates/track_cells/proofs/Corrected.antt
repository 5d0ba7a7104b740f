-- A corrected cell, by its parts.
use Rattle.std.proofs.Common.{◌≡◌, ℕ, ap, sym, ◌∙◌, Bool}
use Rattle.std.specs.Prelude.{pos, ◌==◌, if◌then◌else◌}
use Rattle.std.proofs.lemmas.Bool.{ne_eqb, eq-eqb}
use Rattle.qam_map.specs.declared.cell.Cell.{Cell}
use Rattle.tracking.specs.Correction.{divided, weight_of, shared_weight, corrected}
use Rattle.tracking.specs.declared.tracked.Tracked.{Tracked}
use Rattle.track_arithmetic.specs.Numbers.{power}
use Rattle.track_arithmetic.specs.declared.complex.Complex.{Complex}

abbrev no_cell : Tracked
no_cell = record { cell = record { re = pos 0; im = pos 0 }; weight = 0 }

abbrev made : Cell → ℕ → Tracked
made d v = record { cell = d; weight = v }

pub zero_power : (full : ℕ) (g : Complex) (c : Cell) (old p : ℕ) → p ≡ power g → p ≡ 0 → ◌≡◌ {A = Tracked} (record { cell = record { re = pos 0; im = pos 0 }; weight = 0 }) (corrected full g c old)
unfolding corrected
zero_power full g c old p e z = ap (λ (t : Bool). if t then no_cell else made (divided g c) (shared_weight (weight_of full (power g)) old)) (sym (eq-eqb (power g) 0 (sym e ∙ z)))

some_power : (full : ℕ) (g : Complex) (c : Cell) (old : ℕ) → (power g ≡ 0 → ⊥) → made (divided g c) (shared_weight (weight_of full (power g)) old) ≡ corrected full g c old
unfolding corrected
some_power full g c old some = ap (λ (t : Bool). if t then no_cell else made (divided g c) (shared_weight (weight_of full (power g)) old)) (sym (ne_eqb (power g) 0 some))

pub with_weight : (full : ℕ) (g : Complex) (c d : Cell) (old p w v : ℕ) → p ≡ power g → (p ≡ 0 → ⊥) → d ≡ divided g c → w ≡ weight_of full p → v ≡ shared_weight w old → ◌≡◌ {A = Tracked} (record { cell = d; weight = v }) (corrected full g c old)
with_weight full g c d old p w v ep some ed ew ev =
    let weight_is : v ≡ shared_weight (weight_of full (power g)) old = ev ∙ ap (λ (z : ℕ). shared_weight z old) (ew ∙ ap (weight_of full) ep) in
    ap (λ (z : Cell). made z v) ed ∙ ap (made (divided g c)) weight_is ∙ some_power full g c old (λ z. some (ep ∙ z))
