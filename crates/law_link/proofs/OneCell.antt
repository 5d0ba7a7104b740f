-- A cell with a close estimate is restored.
use Rattle.std.proofs.Common.{◌≡◌, ℕ, ◌+◌, ◌*◌, ◌/◌, ◌^◌, ◌<◌, ◌≤◌, ap, sym, ◌∙◌, arith, subst, Bool}
use Rattle.std.specs.Prelude.{ℤ, pos, ◌+ℤ◌, ◌-ℤ◌, ◌*ℤ◌, neg_ℤ, nat_abs, ◌==◌, if◌then◌else◌}
use Rattle.std.specs.Int.{w16}
use Rattle.std.specs.Int.RustNames.{FitsSigned}
use borrow.Author.Differences.{up, down}
use Rattle.std.proofs.lemmas.Int.{ints}
use Rattle.std.proofs.lemmas.Nat.{le-div}
use Rattle.std.proofs.lemmas.Bool.{ne_eqb}
use Rattle.std.proofs.Math.Nat.{pow-suc, pow-zero}
use Rattle.qam_map.specs.declared.cell.Cell.{Cell}
use Rattle.cell_equal.specs.Equal.{blank, power, nearest, value_near, divided, weight_of, corrected}
use Rattle.cell_equal.specs.declared.gain.Gain.{Gain}
use Rattle.cell_equal.specs.declared.equalised.Equalised.{Equalised}
use Rattle.law_link.specs.Flat.{IsCell, IsStrong, CameThrough, IsRestored}
use Rattle.spec_words.proofs.Ring.{itself, number, plus, opposite, less, times, same}
use Rattle.spec_words.proofs.Sizes.{Below, opposite_below, square_le}
use Rattle.law_link.proofs.Rounding.{rounded, clamped}
use Rattle.law_link.proofs.Estimate.{IsEstimate, IsReceived, strong, told, worth}

-- the same after a quarter turn
turned : (a b x y r i : ℤ) → IsReceived a b x y r i → IsReceived a b y (neg_ℤ x) i (neg_ℤ r)
turned a b x y r i h =
    let a' = itself a in let b' = itself b in let x' = itself x in let y' = itself y in let r' = itself r in let i' = itself i in
    let g' = number 16384 in
    let re : pos 16384 *ℤ i -ℤ (a *ℤ y +ℤ b *ℤ x) ≡ pos 16384 *ℤ i -ℤ (a *ℤ y -ℤ b *ℤ neg_ℤ x) =
    same (less (times g' i') (plus (times a' y') (times b' x'))) (less (times g' i') (less (times a' y') (times b' (opposite x')))) (omega arith) in
    let im : neg_ℤ (pos 16384 *ℤ r -ℤ (a *ℤ x -ℤ b *ℤ y)) ≡ pos 16384 *ℤ neg_ℤ r -ℤ (a *ℤ neg_ℤ x +ℤ b *ℤ y) =
    same (opposite (less (times g' r') (less (times a' x') (times b' y')))) (less (times g' (opposite r')) (plus (times a' (opposite x')) (times b' y'))) (omega arith) in
    record { re = subst (λ (z : ℤ). Below z 16384) re h.im; im = subst (λ (z : ℤ). Below z 16384) im (opposite_below h.re) }

away : (i u r v : ℤ) → i *ℤ u +ℤ neg_ℤ r *ℤ v ≡ i *ℤ u -ℤ r *ℤ v
away i u r v = same (plus (times (itself i) (itself u)) (times (opposite (itself r)) (itself v))) (less (times (itself i) (itself u)) (times (itself r) (itself v))) (omega arith)

one : (n : ℕ) → n ^ 1 ≡ n
one n = pow-suc n 0 ∙ ap (λ (t : ℕ). t * n) (pow-zero n) ∙ (omega arith)

squared : (n : ℕ) → n ^ 2 ≡ n * n
squared n = pow-suc n 1 ∙ ap (λ (t : ℕ). t * n) (one n)

pub power_is : (g : Gain) → power g ≡ nat_abs g.re * nat_abs g.re + nat_abs g.im * nat_abs g.im
power_is g = omega (arith, squared (nat_abs g.re), squared (nat_abs g.im))

pub strong_is : (a b : ℤ) → IsStrong a b → 2 ^ 26 ≤ nat_abs a * nat_abs a + nat_abs b * nat_abs b
strong_is a b h = omega (arith, squared (nat_abs a), squared (nat_abs b), h)

-- a value of a cell is at most 2 ^ 15 from 0
fits_below : (z : ℤ) → FitsSigned w16 z → Below z 32768
fits_below z f = record { below = omega (arith, ints, f) }

fits_parts : (z : ℤ) → FitsSigned w16 z → (up z < down z + 2 ^ 15) × (down z ≤ up z + 2 ^ 15)
fits_parts z f = omega (arith, ints, f)

-- if the quotient is close to it, so is the value of the cell
on_axis : (x z : ℤ) (n e : ℕ) → FitsSigned w16 x → 0 < n → nat_abs (z -ℤ x *ℤ pos n) ≤ e * n → nat_abs (value_near z n -ℤ x) ≤ e
on_axis x z n e f some h = clamped x (nearest z n) e (fits_parts x f) (rounded x z n e some h)

some_power : (d m n : ℕ) → 1 ≤ d → 21841 * d ≤ 2 * (m + n) → 0 < m * m + n * n
some_power d m n one h = let w = worth d m n h in let big : 1 * 1 ≤ (21845 * d) * (21845 * d) = square_le 1 (21845 * d) (omega (arith, one)) in omega (arith, w, big)

least_weight : (g : Gain) → 1 ≤ g.span → 21845 * g.span * (21845 * g.span) ≤ 16 * power g → 1 ≤ weight_of g
least_weight g one h =
    let c = 21845 * g.span in
    let big : 0 < c ^ 2 = omega (arith, squared c, square_le 1 c (omega (arith, one))) in
    let q : 1 ≤ 16 * power g / c ^ 2 = le-div 1 (16 * power g) (c ^ 2) big (omega (arith, squared c, h)) in
    omega (arith, q)

counted : (w n : ℕ) → 1 ≤ w → 1 ≤ n → 1 ≤ (if w == 0 then 0 else n)
counted w n h k = subst (λ (t : Bool). 1 ≤ (if t then 0 else n)) (sym (ne_eqb w 0 (λ e. omega (arith, e, h)))) k

divided_is : (g : Gain) (c : Cell) (w : ℕ) → 0 < power g → corrected g c w ≡ record { cell = divided g c; weight = if w == 0 then 0 else weight_of g }
unfolding corrected
divided_is g c w h = ap (λ (t : Bool). if t then blank_cell else record { cell = divided g c; weight = if w == 0 then 0 else weight_of g }) (ne_eqb (power g) 0 (λ e. omega (arith, e, h)))
  where
    blank_cell : Equalised
    blank_cell = record { cell = blank; weight = 0 }

pub restored : (g : Gain) (a b : ℤ) (sent received : Cell) (w : ℕ) → 1 ≤ g.span → 1 ≤ w → IsStrong a b → IsCell sent → IsEstimate a b g.span g.re g.im → CameThrough a b sent received → IsRestored 17 sent (corrected g received w)
restored g a b sent received w some counts power_of cell near came =
    let x = sent.re in
    let y = sent.im in
    let r = received.re in
    let i = received.im in
    let got : IsReceived a b x y r i = record { re = record { below = came.re }; im = record { below = came.im } } in
    let big = strong_is a b power_of in
    let wide = strong a b g.re g.im g.span big near in
    let p = power_is g in
    let full : 0 < power g = omega (arith, p, some_power g.span (nat_abs g.re) (nat_abs g.im) some wide) in
    let real = told g.span a b x y g.re g.im r i (fits_below x cell.re) (fits_below y cell.im) big near got in
    let imaginary = told g.span a b y (neg_ℤ x) g.re g.im i (neg_ℤ r) (fits_below y cell.im) (opposite_below (fits_below x cell.re)) big near (turned a b x y r i got) in
    let c = pos (21845 * g.span) in
    let re : nat_abs (c *ℤ (r *ℤ g.re +ℤ i *ℤ g.im) -ℤ x *ℤ pos (power g)) ≤ 17 * power g = subst (λ (n : ℕ). nat_abs (c *ℤ (r *ℤ g.re +ℤ i *ℤ g.im) -ℤ x *ℤ pos n) ≤ 17 * n) (sym p) real in
    let im : nat_abs (c *ℤ (i *ℤ g.re -ℤ r *ℤ g.im) -ℤ y *ℤ pos (power g)) ≤ 17 * power g =
    subst (λ (n : ℕ). nat_abs (c *ℤ (i *ℤ g.re -ℤ r *ℤ g.im) -ℤ y *ℤ pos n) ≤ 17 * n) (sym p)
    (subst (λ (z : ℤ). nat_abs (c *ℤ z -ℤ y *ℤ pos (nat_abs g.re * nat_abs g.re + nat_abs g.im * nat_abs g.im)) ≤ 17 * (nat_abs g.re * nat_abs g.re + nat_abs g.im * nat_abs g.im)) (away i g.re r g.im) imaginary) in
    let weight = counted w (weight_of g) counts (least_weight g some (omega (arith, p, worth g.span (nat_abs g.re) (nat_abs g.im) wide))) in
    let done : IsRestored 17 sent (record { cell = divided g received; weight = if w == 0 then 0 else weight_of g }) =
    record { re = on_axis x _ (power g) 17 cell.re full re; im = on_axis y _ (power g) 17 cell.im full im; weight = weight } in
    subst (IsRestored 17 sent) (sym (divided_is g received w full)) done
