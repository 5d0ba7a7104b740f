-- A cell divided by a close gain, and its weight.
use Rattle.std.proofs.Common.{◌≡◌, ℕ, ◌+◌, ◌*◌, ◌/◌, ◌^◌, ◌<◌, ◌≤◌, ap, refl, sym, ◌∙◌, arith, subst, Bool, min}
use Rattle.std.specs.Prelude.{ℤ, pos, negsuc, ◌+ℤ◌, ◌-ℤ◌, ◌*ℤ◌, neg_ℤ, nat_abs, if◌then◌else◌}
use borrow.Author.Differences.{up, down}
use Rattle.std.proofs.lemmas.Int.{ints, unsigned_abs-mul}
use Rattle.std.proofs.lemmas.Nat.{le-div, mul-le}
use Rattle.std.proofs.lemmas.Bool.{ne_eqb}
use Rattle.std.proofs.Math.Nat.{mul-le-mul_right}
use Rattle.qam_map.specs.declared.cell.Cell.{Cell}
use Rattle.tracking.specs.Correction.{divided, weight_of, shared_weight, corrected}
use Rattle.tracking.specs.declared.tracked.Tracked.{Tracked}
use Rattle.track_arithmetic.specs.Numbers.{power, nearest, value_near}
use Rattle.track_arithmetic.specs.declared.complex.Complex.{Complex}
use Rattle.spec_words.proofs.Ring.{itself, number, plus, opposite, less, times, same}
use Rattle.spec_words.proofs.Sizes.{Below, self_below, plus_below, less_below, opposite_below, times_below, square_le, sum_square, both_squares}
use Rattle.law_link.proofs.Errors.{errors}
use Rattle.law_link.proofs.Rounding.{rounded, clamped}
use Rattle.law_tracking.proofs.Received.{IsAmplitude, far, not_far}
use Rattle.law_tracking.proofs.Time.{IsNear, true_gain}

-- the power of a close gain, relative to that of the channel
pub record HasPower (p n : ℕ) : Type 0 where
  pub least : 450 * p ≤ n
  pub most : n ≤ 460 * p

abbrev squares : ℕ → ℕ → ℕ
squares x y = x * x + y * y

powers : (m n p q r : ℕ) → 8192 ≤ r → r * r ≤ squares m n → m ≤ r → n ≤ r → 349520 * m ≤ 16384 * p + 1233 * r → 349520 * n ≤ 16384 * q + 1233 * r → 16384 * p ≤ 349520 * m + 1233 * r → 16384 * q ≤ 349520 * n + 1233 * r → HasPower (squares m n) (squares p q)
powers m n p q r big short hm hn one two three four =
    let s1 = square_le (349520 * m) (16384 * p + 1233 * r) one in
    let s2 = square_le (349520 * n) (16384 * q + 1233 * r) two in
    let s3 = square_le (16384 * p) (349520 * m + 1233 * r) three in
    let s4 = square_le (16384 * q) (349520 * n + 1233 * r) four in
    let low = both_squares (p + q) (30 * r) in
    let pq = sum_square p q in
    let high = both_squares (m + n) r in
    let mn = sum_square m n in
    record { least = omega (arith, s1, s2, low, pq, short); most = omega (arith, s3, s4, high, mn, short) }

pub power_near : (a b : ℤ) (r : ℕ) (g : Complex) → IsAmplitude a b r → IsNear 16384 (1233 * r) g (true_gain a b) → HasPower (nat_abs a * nat_abs a + nat_abs b * nat_abs b) (power g)
power_near a b r g amp h =
    powers (nat_abs a) (nat_abs b) (nat_abs g.re) (nat_abs g.im) r amp.least amp.short amp.re amp.im
    (far 16384 349520 (1233 * r) g.re a h.re) (far 16384 349520 (1233 * r) g.im b h.im) (not_far 16384 349520 (1233 * r) g.re a h.re) (not_far 16384 349520 (1233 * r) g.im b h.im)

-- the error of a part, with the sum of the gain's parts, is a share of the power
share : (m n p q r : ℕ) → r * r ≤ squares m n → 450 * squares m n ≤ squares p q → 54569100 * (r * (p + q)) ≤ 4194304 * squares p q
share m n p q r short least = omega (arith, both_squares (p + q) (30 * r), sum_square p q, short, least)

square_is : (u : ℤ) → u *ℤ u ≡ pos (nat_abs u * nat_abs u)
square_is (pos n) = refl
square_is (negsuc n) = refl

power_is : (u v : ℤ) → u *ℤ u +ℤ v *ℤ v ≡ pos (nat_abs u * nat_abs u + nat_abs v * nat_abs v)
power_is u v = ap (λ (z : ℤ). z +ℤ v *ℤ v) (square_is u) ∙ ap (λ (z : ℤ). pos (nat_abs u * nat_abs u) +ℤ z) (square_is v)

-- (x, y) was received as (r, i)
pub record IsReceived (a b x y r i : ℤ) : Type 0 where
  pub re : Below (pos 16384 *ℤ r -ℤ (a *ℤ x -ℤ b *ℤ y)) 16384
  pub im : Below (pos 16384 *ℤ i -ℤ (a *ℤ y +ℤ b *ℤ x)) 16384

told : (n : ℕ) (a b x y u v r i : ℤ) → IsAmplitude a b n → Below x 21845 → Below y 21845 → 450 * squares (nat_abs a) (nat_abs b) ≤ squares (nat_abs u) (nat_abs v)
    → Below (pos 16384 *ℤ u -ℤ pos 349520 *ℤ a) (1233 * n) → Below (pos 16384 *ℤ v -ℤ pos 349520 *ℤ b) (1233 * n) → IsReceived a b x y r i
    → nat_abs (pos 349520 *ℤ (r *ℤ u +ℤ i *ℤ v) -ℤ x *ℤ pos (squares (nat_abs u) (nat_abs v))) ≤ 256 * squares (nat_abs u) (nat_abs v)
told n a b x y u v r i amp bx by least near_u near_v got =
    let E = pos 349520 *ℤ (r *ℤ u +ℤ i *ℤ v) -ℤ x *ℤ (u *ℤ u +ℤ v *ℤ v) in
    let bc = self_below (pos 349520) in
    let bu = self_below u in
    let bv = self_below v in
    let b1 = times_below by (less_below (times_below near_v bu) (times_below near_u bv)) in
    let b2 = times_below bc (plus_below (times_below got.re bu) (times_below got.im bv)) in
    let b3 = times_below bx (plus_below (times_below near_u bu) (times_below near_v bv)) in
    let all = less_below (plus_below b1 b2) b3 in
    let is : 16384 * nat_abs E ≡ nat_abs (pos 16384 *ℤ E) = sym (unsigned_abs-mul (pos 16384) E) in
    let more = is ∙ ap nat_abs (errors 16384 349520 a b x y u v r i) in
    let enough = share (nat_abs a) (nat_abs b) (nat_abs u) (nat_abs v) n amp.short least in
    let wide = mul-le-mul_right (nat_abs u + nat_abs v) amp.least in
    let few : nat_abs E ≤ 256 * squares (nat_abs u) (nat_abs v) = omega (arith, more, all.below, enough, wide) in
    subst (λ (z : ℤ). nat_abs (pos 349520 *ℤ (r *ℤ u +ℤ i *ℤ v) -ℤ x *ℤ z) ≤ 256 * squares (nat_abs u) (nat_abs v)) (power_is u v) few

-- the same after a quarter turn
quarter : (a b x y r i : ℤ) → IsReceived a b x y r i → IsReceived a b y (neg_ℤ x) i (neg_ℤ r)
quarter a b x y r i h =
    let a' = itself a in let b' = itself b in let x' = itself x in let y' = itself y in let r' = itself r in let i' = itself i in
    let g' = number 16384 in
    let re : pos 16384 *ℤ i -ℤ (a *ℤ y +ℤ b *ℤ x) ≡ pos 16384 *ℤ i -ℤ (a *ℤ y -ℤ b *ℤ neg_ℤ x) =
    same (less (times g' i') (plus (times a' y') (times b' x'))) (less (times g' i') (less (times a' y') (times b' (opposite x')))) (omega arith) in
    let im : neg_ℤ (pos 16384 *ℤ r -ℤ (a *ℤ x -ℤ b *ℤ y)) ≡ pos 16384 *ℤ neg_ℤ r -ℤ (a *ℤ neg_ℤ x +ℤ b *ℤ y) =
    same (opposite (less (times g' r') (less (times a' x') (times b' y')))) (less (times g' (opposite r')) (plus (times a' (opposite x')) (times b' y'))) (omega arith) in
    record { re = subst (λ (z : ℤ). Below z 16384) re h.im; im = subst (λ (z : ℤ). Below z 16384) im (opposite_below h.re) }

away : (i u r v : ℤ) → i *ℤ u +ℤ neg_ℤ r *ℤ v ≡ i *ℤ u -ℤ r *ℤ v
away i u r v = same (plus (times (itself i) (itself u)) (times (opposite (itself r)) (itself v))) (less (times (itself i) (itself u)) (times (itself r) (itself v))) (omega arith)

fits_parts : (z : ℤ) → Below z 21845 → (up z < down z + 2 ^ 15) × (down z ≤ up z + 2 ^ 15)
fits_parts z h = omega (arith, ints, h.below)

on_axis : (x z : ℤ) (n : ℕ) → Below x 21845 → 0 < n → nat_abs (z -ℤ x *ℤ pos n) ≤ 256 * n → nat_abs (value_near z n -ℤ x) ≤ 256
on_axis x z n f some h = clamped x (nearest z n) 256 (fits_parts x f) (rounded x z n 256 some h)

-- ---- weights
eight : (full n p : ℕ) → 1 ≤ full → full ≤ 690 * p → 450 * p ≤ n → 8 ≤ weight_of full n
eight full n p some most least =
    let q : 8 ≤ (15 * n + full / 2) / full = le-div 8 (15 * n + full / 2) full (omega (arith, some)) (omega (arith, most, least)) in
    omega (arith, q)

pub counts : (w old : ℕ) → 8 ≤ w → 1 ≤ old → 1 ≤ shared_weight w old
counts w old h some =
    let least = mul-le 8 1 w (min 15 old) h (omega (arith, some)) in
    le-div 1 (2 * (w * min 15 old) + 15) 30 (omega arith) (omega (arith, least))

fifteen : (w old : ℕ) → w ≤ 15 → shared_weight w old ≤ 15
fifteen w old h = let most = mul-le w (min 15 old) 15 15 h (omega arith) in omega (arith, most)

fifteen_at_most : (full n : ℕ) → weight_of full n ≤ 15
fifteen_at_most full n = fifteen_of ((15 * n + full / 2) / full)
  where
    fifteen_of : (x : ℕ) → min 15 x ≤ 15
    fifteen_of x = omega arith

-- ---- the corrected cell
pub record IsCorrected (sent : Cell) (x : Tracked) : Type 0 where
  pub re : nat_abs (x.cell.re -ℤ sent.re) ≤ 256
  pub im : nat_abs (x.cell.im -ℤ sent.im) ≤ 256
  pub weight : 1 ≤ x.weight
  pub most : x.weight ≤ 15

corrected_is : (full : ℕ) (g : Complex) (c : Cell) (w : ℕ) → 0 < power g → corrected full g c w ≡ record { cell = divided g c; weight = shared_weight (weight_of full (power g)) w }
unfolding corrected
corrected_is full g c w h = ap (λ (t : Bool). if t then blank else record { cell = divided g c; weight = shared_weight (weight_of full (power g)) w }) (ne_eqb (power g) 0 (λ e. omega (arith, e, h)))
  where
    blank : Tracked
    blank = record { cell = record { re = pos 0; im = pos 0 }; weight = 0 }

pub cell_corrected : (a b : ℤ) (r full : ℕ) (g : Complex) (sent received : Cell) (w : ℕ) → IsAmplitude a b r → IsNear 16384 (1233 * r) g (true_gain a b) → Below sent.re 21845 → Below sent.im 21845
    → IsReceived a b sent.re sent.im received.re received.im → 1 ≤ full → full ≤ 690 * (nat_abs a * nat_abs a + nat_abs b * nat_abs b) → 1 ≤ w → IsCorrected sent (corrected full g received w)
cell_corrected a b n full g sent received w amp near bx by got some most counts_before =
    let x = sent.re in let y = sent.im in let r = received.re in let i = received.im in
    let p = power_near a b n g amp near in
    let wide : 0 < power g = omega (arith, p.least, amp.strong) in
    let real = told n a b x y g.re g.im r i amp bx by p.least near.re near.im got in
    let imaginary = told n a b y (neg_ℤ x) g.re g.im i (neg_ℤ r) amp by (opposite_below bx) p.least near.re near.im (quarter a b x y r i got) in
    let im : nat_abs (pos 349520 *ℤ (i *ℤ g.re -ℤ r *ℤ g.im) -ℤ y *ℤ pos (power g)) ≤ 256 * power g =
    subst (λ (z : ℤ). nat_abs (pos 349520 *ℤ z -ℤ y *ℤ pos (power g)) ≤ 256 * power g) (away i g.re r g.im) imaginary in
    let done : IsCorrected sent (record { cell = divided g received; weight = shared_weight (weight_of full (power g)) w }) = record {
      re = on_axis x (pos 349520 *ℤ (r *ℤ g.re +ℤ i *ℤ g.im)) (power g) bx wide real;
      im = on_axis y (pos 349520 *ℤ (i *ℤ g.re -ℤ r *ℤ g.im)) (power g) by wide im;
      weight = counts (weight_of full (power g)) w (eight full (power g) (nat_abs a * nat_abs a + nat_abs b * nat_abs b) some most p.least) counts_before;
      most = fifteen (weight_of full (power g)) w (fifteen_at_most full (power g));
    } in
    subst (IsCorrected sent) (sym (corrected_is full g received w wide)) done
