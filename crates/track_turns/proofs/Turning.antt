-- The sums over rows are those of the definitions.
use Rattle.std.proofs.Common.{◌≡◌, ℕ, ◌+◌, ◌-◌, ◌<◌, List, length, get_or, Bool, refl, ap, sym, ◌∙◌, subst, arith}
use Rattle.std.specs.Prelude.{◌==◌, if◌then◌else◌, sum_by}
use Rattle.std.proofs.lemmas.Bool.{ne_eqb, eq-eqb}
use Rattle.mode_set.specs.declared.modes.Mode.{Mode}
use Rattle.qam_map.specs.declared.cell.Cell.{Cell}
use Rattle.tracking.specs.Comb.{Comb, comb_of, continual_points, correlation, turn, turned_value, change, points}
use Rattle.tracking.proofs.Same.{sum_same, total_same}
use Rattle.track_arithmetic.specs.Numbers.{times, conjugate, minus, power, near, shifted, sum_of, forward, direction}
use Rattle.track_arithmetic.specs.declared.complex.Complex.{Complex}
use Rattle.track_turns.specs.Rows.{at, product, products, difference, differences}

-- a row has the values of a symbol at these points
abbrev pub HasValues : Comb → ℕ → List ℕ → List Complex → Type 0
HasValues c t points row = (i : ℕ) → i < length points → at row (get_or points i 0) ≡ c.value t (get_or points i 0)

pub correlated : (c : Comb) (m t : ℕ) (points : List ℕ) (row other : List Complex) → points ≡ continual_points c.mode → HasValues c m points row → HasValues c t points other → shifted 8 (products points row other) ≡ correlation c m t
unfolding correlation
correlated c m t points row other e here there =
    let f = λ (j : ℕ). times (c.value m j) (conjugate (c.value t j)) in
    ap (shifted 8) (sum_same points (product row other) f (λ i h. ap (λ (z : Complex). times z (conjugate (at other (get_or points i 0)))) (here i h) ∙ ap (λ (z : Complex). times (c.value m (get_or points i 0)) (conjugate z)) (there i h))
    ∙ ap (sum_of f) e)

pub turn_same : (c : Comb) (m t : ℕ) → m ≡ t → forward ≡ turn c m t
unfolding turn
turn_same c m t e = ap (λ (z : Bool). if z then forward else direction (correlation c m t)) (sym (eq-eqb m t e))

pub turn_other : (c : Comb) (m t : ℕ) (x : Complex) → (m ≡ t → ⊥) → x ≡ direction (correlation c m t) → x ≡ turn c m t
unfolding turn
turn_other c m t x apart e = e ∙ ap (λ (z : Bool). if z then forward else direction (correlation c m t)) (sym (ne_eqb m t apart))

pub changed : (c : Comb) (t : ℕ) (points : List ℕ) (row other : List Complex) (phase : Complex) → points ≡ continual_points c.mode → HasValues c t points row → HasValues c (t - 1) points other → phase ≡ turn c t (t - 1) → differences points row other phase ≡ change c t
unfolding change turned_value
changed c t points row other phase e here there is =
    let f = λ (j : ℕ). power (minus (c.value t j) (near 14 (times (c.value (t - 1) j) (turn c t (t - 1))))) in
    total_same points (difference row other phase) f (λ i h.
    ap (λ (z : Complex). power (minus z (near 14 (times (at other (get_or points i 0)) phase)))) (here i h)
    ∙ ap (λ (z : Complex). power (minus (c.value t (get_or points i 0)) (near 14 (times z phase)))) (there i h)
    ∙ ap (λ (z : Complex). power (minus (c.value t (get_or points i 0)) (near 14 (times (c.value (t - 1) (get_or points i 0)) z)))) is)
    ∙ ap (sum_by f) e

-- the mode of a file's comb
pub mode_of : (m : Mode) (symbols : List (List Cell)) → (comb_of m symbols).mode ≡ m
unfolding comb_of
mode_of m symbols = refl

-- a row that has all values of a symbol has those at these points
pub at_points : (c : Comb) (t : ℕ) (m : Mode) (all : List ℕ) (mode : Mode) (row : List Complex) → mode ≡ m → ((i : ℕ) → i < length all → get_or all i 0 < points mode) → ((j : ℕ) → j < points m → at row j ≡ c.value t j) → HasValues c t all row
at_points c t m all mode row e within is i h = is (get_or all i 0) (subst (λ (z : Mode). get_or all i 0 < points z) e (within i h))
