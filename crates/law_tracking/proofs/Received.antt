-- Pilots received through a flat channel, and the turn between two of their symbols.
use Rattle.std.proofs.Common.{◌≡◌, ℕ, suc, ◌+◌, ◌*◌, ◌/◌, ◌^◌, ◌<◌, ◌≤◌, List, [], ◌∷◌, length, get_or, ap, ap₂, refl, sym, ◌∙◌, subst, arith}
use Rattle.std.specs.Prelude.{ℤ, pos, negsuc, neg_ℤ, nat_abs, ◌+ℤ◌, ◌-ℤ◌, ◌*ℤ◌}
use Rattle.std.proofs.lemmas.Int.{ints, unsigned_abs-mul}
use Rattle.spec_words.proofs.Ring.{itself, number, plus, opposite, less, times, same}
use Rattle.spec_words.proofs.Sizes.{Below, self_below, plus_below, less_below, times_below, square_le, sum_square, both_squares}
use Rattle.track_arithmetic.specs.Numbers.{conjugate, power, sum_of, shifted, floor, root, forward, direction}
use Rattle.track_arithmetic.specs.Numbers as num
use Rattle.track_arithmetic.specs.declared.complex.Complex.{Complex}
use Rattle.track_arithmetic.proofs.Roots.{root_is_greatest}
use Rattle.law_tracking.proofs.Forward.{IsForward, complex, forward_is}

-- r is the amplitude of a gain, rounded down
pub record IsAmplitude (a b : ℤ) (r : ℕ) : Type 0 where
  pub least : 8192 ≤ r
  pub short : r * r ≤ nat_abs a * nat_abs a + nat_abs b * nat_abs b
  pub re : nat_abs a ≤ r
  pub im : nat_abs b ≤ r
  pub strong : 2 ^ 26 ≤ nat_abs a * nat_abs a + nat_abs b * nat_abs b

pub amplitude : (a b : ℤ) → 2 ^ 26 ≤ nat_abs a * nat_abs a + nat_abs b * nat_abs b → IsAmplitude a b (root (nat_abs a * nat_abs a + nat_abs b * nat_abs b))
amplitude a b h =
    let n = nat_abs a * nat_abs a + nat_abs b * nat_abs b in
    let r = root_is_greatest n in
    record { least = r.greatest 8192 (omega (arith, h)); short = r.within; re = r.greatest (nat_abs a) (omega arith); im = r.greatest (nat_abs b) (omega arith); strong = h }

-- the value of a pilot received through the gain (a + b i) / 16384
pub record IsPilotOf (a b : ℤ) (z : Complex) : Type 0 where
  pub re : Below (pos 16384 *ℤ z.re -ℤ pos 21845 *ℤ a) 16384
  pub im : Below (pos 16384 *ℤ z.im -ℤ pos 21845 *ℤ b) 16384

-- ---- such a value is large
pub triangle : (y z : ℤ) (e : ℕ) → Below (y -ℤ z) e → nat_abs z ≤ nat_abs y + e
triangle y z e h = omega (arith, ints, h.below)

pub triangle_back : (y z : ℤ) (e : ℕ) → Below (y -ℤ z) e → nat_abs y ≤ nat_abs z + e
triangle_back y z e h = omega (arith, ints, h.below)

pub far : (g c e : ℕ) (u a : ℤ) → Below (pos g *ℤ u -ℤ pos c *ℤ a) e → c * nat_abs a ≤ g * nat_abs u + e
far g c e u a h = omega (arith, triangle (pos g *ℤ u) (pos c *ℤ a) e h, unsigned_abs-mul (pos g) u, unsigned_abs-mul (pos c) a)

pub not_far : (g c e : ℕ) (u a : ℤ) → Below (pos g *ℤ u -ℤ pos c *ℤ a) e → g * nat_abs u ≤ c * nat_abs a + e
not_far g c e u a h = omega (arith, triangle_back (pos g *ℤ u) (pos c *ℤ a) e h, unsigned_abs-mul (pos g) u, unsigned_abs-mul (pos c) a)

pub record IsLarge (p q : ℕ) : Type 0 where
  pub slim : 7721 * (p + q) ≤ p * p + q * q
  pub least : 119000000 ≤ p * p + q * q

large : (m n p q : ℕ) → 2 ^ 26 ≤ m * m + n * n → 21845 * m ≤ 16384 * p + 16384 → 21845 * n ≤ 16384 * q + 16384 → IsLarge p q
large m n p q h one two =
    let first = square_le (21845 * m) (16384 * p + 16384) one in
    let second = square_le (21845 * n) (16384 * q + 16384) two in
    let s = sum_square p q in
    let b = both_squares (p + q) 15444 in
    record { slim = omega (arith, first, second, h, s, b); least = omega (arith, first, second, h, s, b) }

pub pilot_large : (a b : ℤ) (z : Complex) (r : ℕ) → IsAmplitude a b r → IsPilotOf a b z → IsLarge (nat_abs z.re) (nat_abs z.im)
pilot_large a b z r amp h = large (nat_abs a) (nat_abs b) (nat_abs z.re) (nat_abs z.im) amp.strong (far 16384 21845 16384 z.re a h.re) (far 16384 21845 16384 z.im b h.im)

-- ---- the product of two such values, one conjugate
pub record IsAhead (n : ℕ) (x : Complex) : Type 0 where
  pub size : ℕ
  pub is : x.re ≡ pos size
  pub least : n ≤ size
  pub flat : 3859 * nat_abs x.im ≤ size

two_apart : (x y k : ℤ) → Below (pos 16384 *ℤ x -ℤ k) 16384 → Below (pos 16384 *ℤ y -ℤ k) 16384 → Below (y -ℤ x) 2
two_apart x y k h g = record { below = omega (arith, ints, h.below, g.below) }

square_is : (u : ℤ) → u *ℤ u ≡ pos (nat_abs u * nat_abs u)
square_is (pos n) = refl
square_is (negsuc n) = refl

ahead_by : (n : ℕ) (e : ℤ) (i : ℤ) (s : ℕ) → nat_abs e ≤ 2 * s → nat_abs i ≤ 2 * s → 7721 * s ≤ n → 119000000 ≤ n → IsAhead 17000000 (complex (pos n +ℤ e) i)
ahead_by n e i s he hi slim least = record {
  size = nat_abs (pos n +ℤ e);
  is = omega (arith, ints, he, slim);
  least = omega (arith, ints, he, slim, least);
  flat = omega (arith, ints, he, hi, slim);
}

pub ahead : (a b : ℤ) (z w : Complex) (r : ℕ) → IsAmplitude a b r → IsPilotOf a b z → IsPilotOf a b w → IsAhead 17000000 (num.times z (conjugate w))
ahead a b z w r amp hz hw =
    let p = itself z.re in let q = itself z.im in let p' = itself w.re in let q' = itself w.im in
    let dp = two_apart z.re w.re (pos 21845 *ℤ a) hz.re hw.re in
    let dq = two_apart z.im w.im (pos 21845 *ℤ b) hz.im hw.im in
    let big = pilot_large a b z r amp hz in
    let e = z.re *ℤ (w.re -ℤ z.re) +ℤ z.im *ℤ (w.im -ℤ z.im) in
    let i = z.im *ℤ (w.re -ℤ z.re) -ℤ z.re *ℤ (w.im -ℤ z.im) in
    let n = nat_abs z.re * nat_abs z.re + nat_abs z.im * nat_abs z.im in
    let re : (z.re *ℤ z.re +ℤ z.im *ℤ z.im) +ℤ e ≡ z.re *ℤ w.re -ℤ z.im *ℤ neg_ℤ w.im =
    same (plus (plus (times p p) (times q q)) (plus (times p (less p' p)) (times q (less q' q)))) (less (times p p') (times q (opposite q'))) (omega arith) in
    let im : i ≡ z.re *ℤ neg_ℤ w.im +ℤ z.im *ℤ w.re =
    same (less (times q (less p' p)) (times p (less q' q))) (plus (times p (opposite q')) (times q p')) (omega arith) in
    let power_is : pos n ≡ z.re *ℤ z.re +ℤ z.im *ℤ z.im = sym (ap₂ (λ (x y : ℤ). x +ℤ y) (square_is z.re) (square_is z.im)) in
    let be = plus_below (times_below (self_below z.re) dp) (times_below (self_below z.im) dq) in
    let bi = less_below (times_below (self_below z.im) dp) (times_below (self_below z.re) dq) in
    let here = ahead_by n e i (nat_abs z.re + nat_abs z.im) (omega (arith, be.below)) (omega (arith, bi.below)) big.slim big.least in
    subst (IsAhead 17000000) (ap₂ complex (ap (λ (x : ℤ). x +ℤ e) power_is ∙ re) im) here

-- ---- the sum of such products
any_sum : (is : List ℕ) (f : ℕ → Complex) → ((i : ℕ) → i < length is → IsAhead 17000000 (f (get_or is i 0))) → IsAhead 0 (sum_of f is)
unfolding sum_of
any_sum [] f h = record { size = 0; is = refl; least = omega arith; flat = omega arith }
any_sum (i ∷ is) f h =
    let first = h 0 (omega arith) in
    let rest = any_sum is f (λ k l. h (suc k) (omega (arith, l))) in
    let flat : 3859 * nat_abs ((f i).im +ℤ (sum_of f is).im) ≤ first.size + rest.size = omega (arith, ints, first.flat, rest.flat) in
    record { size = first.size + rest.size; is = ap₂ (λ (x y : ℤ). x +ℤ y) first.is rest.is; least = omega arith; flat = flat }

pub ahead_sum : (is : List ℕ) (f : ℕ → Complex) → 1 ≤ length is → ((i : ℕ) → i < length is → IsAhead 17000000 (f (get_or is i 0))) → IsAhead 17000000 (sum_of f is)
unfolding sum_of
ahead_sum [] f some h = absurd (omega (arith, some))
ahead_sum (i ∷ is) f some h =
    let first = h 0 (omega arith) in
    let rest = any_sum is f (λ k l. h (suc k) (omega (arith, l))) in
    let flat : 3859 * nat_abs ((f i).im +ℤ (sum_of f is).im) ≤ first.size + rest.size = omega (arith, ints, first.flat, rest.flat) in
    record { size = first.size + rest.size; is = ap₂ (λ (x y : ℤ). x +ℤ y) first.is rest.is; least = omega (arith, first.least); flat = flat }

-- ---- the direction of the sum
floored : (z : ℤ) → 256 * nat_abs (floor z 256) ≤ nat_abs z + 255
floored (pos n) = omega arith
floored (negsuc n) = omega arith

pub forward_of : (x : Complex) → IsAhead 17000000 x → IsForward (direction (shifted 8 x))
forward_of x h =
    let q = floor x.im 256 in
    let e : complex (pos (h.size / 256)) q ≡ shifted 8 x = ap (λ (z : ℤ). complex (floor z 256) q) (sym h.is) in
    let f = floored x.im in
    subst (λ (y : Complex). IsForward (direction y)) e (forward_is (h.size / 256) q (omega (arith, h.least)) (omega (arith, h.least, h.flat, f)))

pub forward_forward : IsForward forward
forward_forward = record { re = refl; im = omega arith }

-- ---- a value turned nearly forward
pub record IsTurned (a b : ℤ) (r : ℕ) (z : Complex) : Type 0 where
  pub re : Below (pos 16384 *ℤ z.re -ℤ pos 357908480 *ℤ a) (120156 * r)
  pub im : Below (pos 16384 *ℤ z.im -ℤ pos 357908480 *ℤ b) (120156 * r)

pub turned_near : (a b : ℤ) (r : ℕ) (z : Complex) (v : ℤ) → IsAmplitude a b r → IsPilotOf a b z → nat_abs v ≤ 4 → IsTurned a b r (num.times z (complex (pos 16384) v))
turned_near a b r z v amp h few =
    let p = itself z.re in let q = itself z.im in let a' = itself a in let b' = itself b in let v' = itself v in
    let g = number 16384 in let c = number 21845 in let d = number 357908480 in
    let bg = self_below (pos 16384) in
    let bv : Below v 4 = record { below = few } in
    let re = less_below (times_below bg h.re) (times_below bg (times_below (self_below z.im) bv)) in
    let im = plus_below (times_below bg h.im) (times_below bg (times_below (self_below z.re) bv)) in
    let re_is : pos 16384 *ℤ (pos 16384 *ℤ z.re -ℤ pos 21845 *ℤ a) -ℤ pos 16384 *ℤ (z.im *ℤ v) ≡ pos 16384 *ℤ (z.re *ℤ pos 16384 -ℤ z.im *ℤ v) -ℤ pos 357908480 *ℤ a =
    same (less (times g (less (times g p) (times c a'))) (times g (times q v'))) (less (times g (less (times p g) (times q v'))) (times d a')) (omega arith) in
    let im_is : pos 16384 *ℤ (pos 16384 *ℤ z.im -ℤ pos 21845 *ℤ b) +ℤ pos 16384 *ℤ (z.re *ℤ v) ≡ pos 16384 *ℤ (z.re *ℤ v +ℤ z.im *ℤ pos 16384) -ℤ pos 357908480 *ℤ b =
    same (plus (times g (less (times g q) (times c b'))) (times g (times p v'))) (less (times g (plus (times p v') (times q g))) (times d b')) (omega arith) in
    let near_q = not_far 16384 21845 16384 z.im b h.im in
    let near_p = not_far 16384 21845 16384 z.re a h.re in
    record {
      re = subst (λ (y : ℤ). Below y (120156 * r)) re_is (record { below = omega (arith, re.below, near_q, amp.im, amp.least) });
      im = subst (λ (y : ℤ). Below y (120156 * r)) im_is (record { below = omega (arith, im.below, near_p, amp.re, amp.least) });
    }
