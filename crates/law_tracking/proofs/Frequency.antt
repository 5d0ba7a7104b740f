-- The gain at a carrier of a file received through a flat channel.
use Rattle.std.proofs.Common.{◌≡◌, ℕ, ◌+◌, ◌-◌, ◌*◌, ◌<◌, ◌≤◌, List, [], ◌∷◌, length, get_or, ap, ap₂, sym, ◌∙◌, subst, arith}
use Rattle.std.specs.Prelude.{ℤ, pos, neg_ℤ, nat_abs, ◌+ℤ◌, ◌-ℤ◌, ◌*ℤ◌, sum_by}
use Rattle.std.proofs.lemmas.Int.{unsigned_abs-mul}
use Rattle.std.proofs.Math.Nat.{mul-le-mul_left, mul-le-mul_right}
use Rattle.spec_words.specs.Words.{numbers}
use Rattle.spec_words.proofs.Counting.{length-numbers, get_or-numbers}
use Rattle.spec_words.proofs.Ring.{itself, number, plus, less, opposite, same}
use Rattle.spec_words.proofs.Ring as ring
use Rattle.spec_words.proofs.Sizes.{Below, self_below, plus_below, less_below, opposite_below, times_below}
use Rattle.mode_set.specs.StreamTable.{carriers}
use Rattle.mode_set.specs.declared.modes.Guard.{Guard}
use Rattle.mode_set.specs.declared.modes.Mode.{Mode}
use Rattle.mode_set.specs.declared.modes.Mode.TheVariants.{M2k, M8k}
use Rattle.tracking.specs.Comb.{points}
use Rattle.tracking.specs.InFrequency.{slope, frequency_row, first_point, centred, carrier_gain}
use Rattle.track_arithmetic.specs.Numbers.{times, scaled, near, floor, sum_of, turned_by}
use Rattle.track_arithmetic.specs.Numbers as num
use Rattle.track_arithmetic.specs.declared.complex.Complex.{Complex}
use Rattle.law_tracking.proofs.Forward.{complex}
use Rattle.law_tracking.proofs.Received.{IsAmplitude}
use Rattle.law_tracking.proofs.Rows.{row_size, rows_light, turned_small, row_sum, seen_close, carrier_is}
use Rattle.law_tracking.proofs.Time.{IsNear, true_gain}
use Rattle.law_tracking.proofs.Weighted.{re_of_sum, im_of_sum, weighted, nearest_off}

-- ---- a quotient by 2^14 adds its rounding
rounded_part : (g e : ℕ) (x τ : ℤ) → Below (pos g *ℤ x -ℤ τ) e → Below (pos (g * 16384) *ℤ floor (x +ℤ pos 8192) 16384 -ℤ τ) (g * 8192 + e)
rounded_part g e x τ h =
    let q = floor (x +ℤ pos 8192) 16384 in
    let near_x : Below (pos 16384 *ℤ q -ℤ x) 8192 = nearest_off x 8192 (omega arith) in
    let all = plus_below (times_below (self_below (pos g)) near_x) h in
    let g' = number g in let q' = itself q in let x' = itself x in let τ' = itself τ in
    let is : pos g *ℤ (pos 16384 *ℤ q -ℤ x) +ℤ (pos g *ℤ x -ℤ τ) ≡ pos (g * 16384) *ℤ q -ℤ τ =
    same (plus (ring.times g' (less (ring.times (number 16384) q') x')) (less (ring.times g' x') τ')) (less (ring.times (number (g * 16384)) q') τ') (omega arith) in
    subst (λ (z : ℤ). Below z (g * 8192 + e)) is all

pub rounded : (g e : ℕ) (x τ : Complex) → IsNear g e x τ → IsNear (g * 16384) (g * 8192 + e) (near 14 x) τ
rounded g e x τ h = record { re = rounded_part g e x.re τ.re h.re; im = rounded_part g e x.im τ.im h.im }

-- ---- a turn
pub turned : (g e : ℕ) (x τ u : Complex) → IsNear g e x τ → nat_abs u.re + nat_abs u.im ≤ 23170 → IsNear g (23170 * e) (times x u) (times τ u)
turned g e x τ u h small =
    let g' = number g in let x' = itself x.re in let y' = itself x.im in let p = itself τ.re in let q = itself τ.im in let v = itself u.re in let w = itself u.im in
    let re = less_below (times_below h.re (self_below u.re)) (times_below h.im (self_below u.im)) in
    let im = plus_below (times_below h.re (self_below u.im)) (times_below h.im (self_below u.re)) in
    let re_is : (pos g *ℤ x.re -ℤ τ.re) *ℤ u.re -ℤ (pos g *ℤ x.im -ℤ τ.im) *ℤ u.im ≡ pos g *ℤ (x.re *ℤ u.re -ℤ x.im *ℤ u.im) -ℤ (τ.re *ℤ u.re -ℤ τ.im *ℤ u.im) =
    same (less (ring.times (less (ring.times g' x') p) v) (ring.times (less (ring.times g' y') q) w)) (less (ring.times g' (less (ring.times x' v) (ring.times y' w))) (less (ring.times p v) (ring.times q w))) (omega arith) in
    let im_is : (pos g *ℤ x.re -ℤ τ.re) *ℤ u.im +ℤ (pos g *ℤ x.im -ℤ τ.im) *ℤ u.re ≡ pos g *ℤ (x.re *ℤ u.im +ℤ x.im *ℤ u.re) -ℤ (τ.re *ℤ u.im +ℤ τ.im *ℤ u.re) =
    same (plus (ring.times (less (ring.times g' x') p) w) (ring.times (less (ring.times g' y') q) v)) (less (ring.times g' (plus (ring.times x' w) (ring.times y' v))) (plus (ring.times p w) (ring.times q v))) (omega arith) in
    let most = mul-le-mul_left e small in
    record {
      re = subst (λ (z : ℤ). Below z (23170 * e)) re_is (record { below = omega (arith, re.below, most) });
      im = subst (λ (z : ℤ). Below z (23170 * e)) im_is (record { below = omega (arith, im.below, most) });
    }

-- ---- a weighted sum
weighed : (is : List ℕ) (g e : ℕ) (t : ℕ → ℤ) (x τ : ℕ → Complex) → ((i : ℕ) → i < length is → IsNear g e (x (get_or is i 0)) (τ (get_or is i 0)))
    → IsNear g (sum_by (λ i. nat_abs (t i)) is * e) (sum_of (λ i. scaled (t i) (x i)) is) (sum_of (λ i. scaled (t i) (τ i)) is)
weighed is g e t x τ h =
    let bound = sum_by (λ i. nat_abs (t i)) is * e in
    let re = weighted g e is t (λ i. (x i).re) (λ i. (τ i).re) (λ i l. (h i l).re) in
    let im = weighted g e is t (λ i. (x i).im) (λ i. (τ i).im) (λ i l. (h i l).im) in
    let re_x = re_of_sum is (λ i. scaled (t i) (x i)) in
    let re_τ = re_of_sum is (λ i. scaled (t i) (τ i)) in
    let im_x = im_of_sum is (λ i. scaled (t i) (x i)) in
    let im_τ = im_of_sum is (λ i. scaled (t i) (τ i)) in
    record {
      re = subst (λ (z : ℤ). Below z bound) (ap₂ (λ (y z : ℤ). pos g *ℤ y -ℤ z) (sym re_x) (sym re_τ)) re;
      im = subst (λ (z : ℤ). Below z bound) (ap₂ (λ (y z : ℤ). pos g *ℤ y -ℤ z) (sym im_x) (sym im_τ)) im;
    }

-- a common factor
factor_step : (λ' e s : Complex) (f : ℤ) → num.plus (scaled f (times λ' e)) (times λ' s) ≡ times λ' (num.plus (scaled f e) s)
factor_step l e s f =
    let p = itself l.re in let q = itself l.im in let v = itself e.re in let w = itself e.im in let x = itself s.re in let y = itself s.im in let f' = itself f in
    ap₂ complex
    (same (plus (ring.times f' (less (ring.times p v) (ring.times q w))) (less (ring.times p x) (ring.times q y))) (less (ring.times p (plus (ring.times f' v) x)) (ring.times q (plus (ring.times f' w) y))) (omega arith))
    (same (plus (ring.times f' (plus (ring.times p w) (ring.times q v))) (plus (ring.times p y) (ring.times q x))) (plus (ring.times p (plus (ring.times f' w) y)) (ring.times q (plus (ring.times f' v) x))) (omega arith))

factor_none : (l : Complex) → num.nothing ≡ times l num.nothing
factor_none l =
    let p = itself l.re in let q = itself l.im in let o = number 0 in
    ap₂ complex (same o (less (ring.times p o) (ring.times q o)) (omega arith)) (same o (plus (ring.times p o) (ring.times q o)) (omega arith))

factor : (is : List ℕ) (l : Complex) (t : ℕ → ℤ) (e : ℕ → Complex) → sum_of (λ i. scaled (t i) (times l (e i))) is ≡ times l (sum_of (λ i. scaled (t i) (e i)) is)
unfolding sum_of
factor [] l t e = factor_none l
factor (i ∷ is) l t e = ap (num.plus (scaled (t i) (times l (e i)))) (factor is l t e) ∙ factor_step l (e i) (sum_of (λ i. scaled (t i) (e i)) is) (t i)

associative : (x y z : Complex) → times (times x y) z ≡ times x (times y z)
associative x y z =
    let a = itself x.re in let b = itself x.im in let c = itself y.re in let d = itself y.im in let e = itself z.re in let f = itself z.im in
    let re = less (ring.times a c) (ring.times b d) in let im = plus (ring.times a d) (ring.times b c) in
    let re' = less (ring.times c e) (ring.times d f) in let im' = plus (ring.times c f) (ring.times d e) in
    ap₂ complex
    (same (less (ring.times re e) (ring.times im f)) (less (ring.times a re') (ring.times b im')) (omega arith))
    (same (plus (ring.times re f) (ring.times im e)) (plus (ring.times a im') (ring.times b re')) (omega arith))

-- ---- the remainders of the rows
last_part : (e r l : ℕ) (g x y u v : ℤ) → nat_abs x ≤ l → nat_abs y ≤ l → nat_abs (u -ℤ pos 4398046511104) + nat_abs v ≤ 951053430 → l ≤ 349520 * r → e + 951053430 * (349520 * r) ≤ 1233 * (4398046511104 * r)
    → Below (pos 72057594037927936 *ℤ g -ℤ (x *ℤ u -ℤ y *ℤ v)) e → Below (pos 16384 *ℤ g -ℤ x) (1233 * r)
last_part e r l g x y u v hx hy close most room h =
    let w = u -ℤ pos 4398046511104 in
    let g' = itself g in let x' = itself x in let y' = itself y in let u' = itself u in let v' = itself v in
    let all = plus_below h (less_below (times_below (self_below x) (self_below w)) (times_below (self_below y) (self_below v))) in
    let z = pos 16384 *ℤ g -ℤ x in
    let is : (pos 72057594037927936 *ℤ g -ℤ (x *ℤ u -ℤ y *ℤ v)) +ℤ (x *ℤ (u -ℤ pos 4398046511104) -ℤ y *ℤ v) ≡ pos 4398046511104 *ℤ z =
    same (plus (less (ring.times (number 72057594037927936) g') (less (ring.times x' u') (ring.times y' v'))) (less (ring.times x' (less u' (number 4398046511104))) (ring.times y' v')))
    (ring.times (number 4398046511104) (less (ring.times (number 16384) g') x')) (omega arith) in
    let abs = ap nat_abs is ∙ unsigned_abs-mul (pos 4398046511104) z in
    let one = mul-le-mul_right (nat_abs w) hx in
    let two = mul-le-mul_right (nat_abs v) hy in
    let three = mul-le-mul_left l close in
    let four = mul-le-mul_right 951053430 most in
    record { below = omega (arith, abs, all.below, one, two, three, four, room) }

last_imaginary : (e r l : ℕ) (g x y u v : ℤ) → nat_abs x ≤ l → nat_abs y ≤ l → nat_abs (u -ℤ pos 4398046511104) + nat_abs v ≤ 951053430 → l ≤ 349520 * r → e + 951053430 * (349520 * r) ≤ 1233 * (4398046511104 * r)
    → Below (pos 72057594037927936 *ℤ g -ℤ (x *ℤ v +ℤ y *ℤ u)) e → Below (pos 16384 *ℤ g -ℤ y) (1233 * r)
last_imaginary e r l g x y u v hx hy close most room h =
    let u' = itself u in let v' = itself v in let x' = itself x in let y' = itself y in
    let is : x *ℤ v +ℤ y *ℤ u ≡ y *ℤ u -ℤ neg_ℤ x *ℤ v = same (plus (ring.times x' v') (ring.times y' u')) (less (ring.times y' u') (ring.times (opposite x') v')) (omega arith) in
    let opposite_most : nat_abs (neg_ℤ x) ≤ l = (opposite_below (record { below = hx })).below in
    last_part e r l g y (neg_ℤ x) u v hy opposite_most close most room (subst (λ (z : ℤ). Below (pos 72057594037927936 *ℤ g -ℤ z) e) is h)

-- ---- the gain at a carrier
point_below : (m : Mode) (k i : ℕ) → k < carriers m → i < 12 → first_point m k + i < points m
point_below M2k k i h few = omega (arith, h, few)
point_below M8k k i h few = omega (arith, h, few)

pub carrier_near : (a b : ℤ) (r : ℕ) → IsAmplitude a b r → (g : Guard) (m : Mode) (h : ℕ → Complex) (k : ℕ) → k < carriers m → ((j : ℕ) → j < points m → IsNear 16384 (162 * r) (h j) (true_gain a b))
    → IsNear 16384 (1233 * r) (carrier_gain g m h k) (true_gain a b)
unfolding carrier_gain
carrier_near a b r amp g m h k few known =
    let l = true_gain a b in
    let o = first_point m k in
    let t = k - 3 * o in
    let f = λ (i : ℕ). get_or (frequency_row g t) i (pos 0) in
    let e = λ (i : ℕ). turned_by (3 * (o + i) * slope g) in
    let is = numbers 12 in
    let centre : (i : ℕ) → i < 12 → IsNear 268435456 (16384 * 8192 + 23170 * (162 * r)) (centred g h (o + i)) (times l (e i)) = λ i lt.
    rounded 16384 (23170 * (162 * r)) (times (h (o + i)) (e i)) (times l (e i)) (turned 16384 (162 * r) (h (o + i)) l (e i) (known (o + i) (point_below m k i few lt)) (turned_small (3 * (o + i) * slope g))) in
    let each : (i : ℕ) → i < length is → IsNear 268435456 (16384 * 8192 + 23170 * (162 * r)) (centred g h (o + get_or is i 0)) (times l (e (get_or is i 0))) = λ i lt.
    let below : i < 12 = omega (arith, lt, length-numbers 12) in
    centre (get_or is i 0) (omega (arith, get_or-numbers 12 i below, below)) in
    let one = 16384 * 8192 + 23170 * (162 * r) in
    let sum = weighed is 268435456 one f (λ i. centred g h (o + i)) (λ i. times l (e i)) each in
    let s = sum_of (λ i. scaled (f i) (centred g h (o + i))) is in
    let size = row_size g t in
    let factored : IsNear 268435456 (size * one) s (times l (row_sum g t o)) = subst (IsNear 268435456 (size * one) s) (factor is l f e) sum in
    let inner = rounded 268435456 (size * one) s (times l (row_sum g t o)) factored in
    let two = 268435456 * 8192 + size * one in
    let back = turned_by (63 * (k * slope g)) in
    let turned_back = turned 4398046511104 two (near 14 s) (times l (row_sum g t o)) back inner (turned_small (63 * (k * slope g))) in
    let outer = rounded 4398046511104 (23170 * two) (times (near 14 s) back) (times (times l (row_sum g t o)) back) turned_back in
    let three = 4398046511104 * 8192 + 23170 * two in
    let u = times (row_sum g t o) back in
    let final : IsNear 72057594037927936 three (near 14 (times (near 14 s) back)) (times l u) = subst (IsNear 72057594037927936 three (near 14 (times (near 14 s) back))) (associative l (row_sum g t o) back) outer in
    let light = mul-le-mul_right one (rows_light g t (carrier_is m k few).row) in
    let room : three + 951053430 * (349520 * r) ≤ 1233 * (4398046511104 * r) = omega (arith, light, amp.least) in
    let close = seen_close g m k few in
    let re_most : nat_abs l.re ≤ 349520 * r = omega (arith, unsigned_abs-mul (pos 349520) a, amp.re) in
    let im_most : nat_abs l.im ≤ 349520 * r = omega (arith, unsigned_abs-mul (pos 349520) b, amp.im) in
    let G = near 14 (times (near 14 s) back) in
    record {
      re = last_part three r (349520 * r) G.re l.re l.im u.re u.im re_most im_most close (omega arith) room final.re;
      im = last_imaginary three r (349520 * r) G.im l.re l.im u.re u.im re_most im_most close (omega arith) room final.im;
    }
