-- The gain at a comb point of a file received through a flat channel.
use Rattle.std.proofs.Common.{◌≡◌, ℕ, ◌+◌, ◌*◌, ◌%◌, ◌^◌, ◌<◌, ◌≤◌, List, length, get_or, ap, refl, sym, ◌∙◌, subst, arith, Bool, true, false}
use Rattle.std.specs.Prelude.{ℤ, pos, nat_abs, ◌+ℤ◌, ◌-ℤ◌, ◌*ℤ◌, ◌==◌, if◌then◌else◌}
use Rattle.std.proofs.lemmas.Int.{unsigned_abs-mul}
use Rattle.std.proofs.lemmas.Nat.{mod_below}
use Rattle.std.proofs.Math.Nat.{mul-le-mul_right}
use Rattle.spec_words.specs.Words.{numbers}
use Rattle.spec_words.proofs.Counting.{length-numbers, get_or-numbers}
use Rattle.spec_words.proofs.Ring.{itself, number, plus, less, times, same}
use Rattle.spec_words.proofs.Sizes.{Below, self_below, plus_below, times_below}
use Rattle.mode_set.specs.declared.modes.Guard.{Guard}
use Rattle.mode_set.specs.declared.modes.Mode.{Mode}
use Rattle.mode_set.specs.declared.modes.Mode.TheVariants.{M2k, M8k}
use Rattle.pilots.specs.Around.{is_pilot}
use Rattle.pilots.specs.Carriers.{is_continual}
use Rattle.tracking.specs.Comb.{Comb, points, continual_points, correlation, turn, turned_value}
use Rattle.tracking.specs.InTime.{distance, symbol_at, counting, tap_at, sum_ℤ, point_gain}
use Rattle.tracking.specs.Moving.{motion}
use Rattle.law_tracking.proofs.Counting.{some_of, counting_is, counts_there, counts_place, counts_scattered, first_there, inside, some_counts}
use Rattle.law_tracking.proofs.Pilots.{scattered_is, scattered_where, continual_within, continual_pilot}
use Rattle.law_tracking.proofs.Taps.{size, whole, few, sum_is}
use Rattle.track_arithmetic.specs.Numbers.{conjugate, scaled, shifted, sum_of, floor, forward, direction}
use Rattle.track_arithmetic.specs.Numbers as num
use Rattle.track_arithmetic.specs.declared.complex.Complex.{Complex}
use Rattle.law_tracking.proofs.Forward.{IsForward, complex}
use Rattle.law_tracking.proofs.Received.{IsAmplitude, IsPilotOf, ahead, ahead_sum, forward_of, forward_forward, IsTurned, turned_near}
use Rattle.law_tracking.proofs.Weighted.{re_of_sum, weighted, one_target, nearest_off, im_of_sum}

-- g times the number is close to the target on each axis
pub record IsNear (g e : ℕ) (x target : Complex) : Type 0 where
  pub re : Below (pos g *ℤ x.re -ℤ target.re) e
  pub im : Below (pos g *ℤ x.im -ℤ target.im) e

-- 16384 times the gain of the channel at a comb point or carrier
abbrev pub true_gain : ℤ → ℤ → Complex
true_gain a b = complex (pos 349520 *ℤ a) (pos 349520 *ℤ b)

-- the pilots of a file were received through the gain (a + b i) / 16384
pub record HasThrough (a b : ℤ) (c : Comb) : Type 0 where
  pub pilot : (t j : ℕ) → t < c.count → j < points c.mode → is_pilot c.mode (t % 68) (3 * j) ≡ true → IsPilotOf a b (c.value t j)

zero_continual : (m : Mode) → is_continual m 0 ≡ true
unfolding is_continual numbers
zero_continual M2k = refl
zero_continual M8k = refl

some_points : (m : Mode) → 0 < points m
some_points M2k = omega arith
some_points M8k = omega arith

some_continual : (m : Mode) → 1 ≤ length (continual_points m)
unfolding continual_points
some_continual m =
    let n = points m in
    let some = some_points m in
    some_of (numbers n) (λ j. is_continual m (3 * j)) 0 (omega (arith, some, length-numbers n)) (ap (λ (j : ℕ). is_continual m (3 * j)) (get_or-numbers n 0 some) ∙ zero_continual m)

chosen : (b : Bool) (x : Complex) → IsForward x → IsForward (if b then forward else x)
chosen true x h = forward_forward
chosen false x h = h

-- a part of the gain, from the sum of the taps times the values
part_near : (x a : ℤ) (r s : ℕ) → s ≤ 5620 → 8192 ≤ r → Below (pos 16384 *ℤ x -ℤ pos 4096 *ℤ (pos 357908480 *ℤ a)) (s * (120156 * r)) → Below (pos 16384 *ℤ floor (x +ℤ pos (2 ^ 21)) (2 ^ 22) -ℤ pos 349520 *ℤ a) (162 * r)
part_near x a r s few least h =
    let q = floor (x +ℤ pos (2 ^ 21)) (2 ^ 22) in
    let off : Below (pos 4194304 *ℤ q -ℤ x) 2097152 = nearest_off x 2097152 (omega arith) in
    let all = plus_below (times_below (self_below (pos 16384)) off) h in
    let x' = itself x in let a' = itself a in let q' = itself q in
    let y = pos 16384 *ℤ q -ℤ pos 349520 *ℤ a in
    let is : pos 16384 *ℤ (pos 4194304 *ℤ q -ℤ x) +ℤ (pos 16384 *ℤ x -ℤ pos 4096 *ℤ (pos 357908480 *ℤ a)) ≡ pos 4194304 *ℤ y =
    same (plus (times (number 16384) (less (times (number 4194304) q') x')) (less (times (number 16384) x') (times (number 4096) (times (number 357908480) a'))))
    (times (number 4194304) (less (times (number 16384) q') (times (number 349520) a'))) (omega arith) in
    let size = mul-le-mul_right (120156 * r) few in
    let abs = ap nat_abs is ∙ unsigned_abs-mul (pos 4194304) y in
    record { below = omega (arith, abs, all.below, size, least) }

module _ (a b : ℤ) (r : ℕ) (amp : IsAmplitude a b r) (c : Comb) (h : HasThrough a b c) where
  turn_forward : (m t : ℕ) → m < c.count → t < c.count → IsForward (turn c m t)
  unfolding turn correlation
  turn_forward m t hm ht =
      let is = continual_points c.mode in
      let f = λ (j : ℕ). num.times (c.value m j) (conjugate (c.value t j)) in
      let sum = ahead_sum is f (some_continual c.mode) (λ i l.
      ahead a b (c.value m (get_or is i 0)) (c.value t (get_or is i 0)) r amp
      (h.pilot m (get_or is i 0) hm (continual_within c.mode i l) (continual_pilot c.mode (m % 68) i l))
      (h.pilot t (get_or is i 0) ht (continual_within c.mode i l) (continual_pilot c.mode (t % 68) i l))) in
      chosen (m == t) (direction (shifted 8 (sum_of f is))) (forward_of (sum_of f is) sum)

  value_near : (m t j : ℕ) → m < c.count → t < c.count → IsPilotOf a b (c.value t j) → IsTurned a b r (turned_value c m t j)
  unfolding turned_value
  value_near m t j hm ht known =
      let u = turn c m t in
      let near = turn_forward m t hm ht in
      subst (λ (y : Complex). IsTurned a b r (num.times (c.value t j) y)) (sym (ap (λ (y : ℤ). complex y u.im) near.re)) (turned_near a b r (c.value t j) u.im amp known near.im)

  pub point_near : (g : Guard) (m j : ℕ) → 4 ≤ c.count → m < c.count → j < points c.mode → IsNear 16384 (162 * r) (point_gain g c m j) (true_gain a b)
  unfolding point_gain
  point_near g m j wide hm hj =
      let d = distance m j in
      let ps = counting c m d in
      let f = motion g c m in
      let known = counting_is c m d in
      let less : d < 4 = mod_below (m + 3 * j) 4 (omega arith) in
      let taps = tap_at f d ps in
      let v = λ (p : ℕ). turned_value c m (symbol_at m p) j in
      let each : (i : ℕ) → i < length ps → IsTurned a b r (v (get_or ps i 0)) = λ i l.
      let p = get_or ps i 0 in
      let u = symbol_at m p in
      let there = counts_there known i l in
      let within : u < c.count = inside c m p there in
      let same_place : u % 4 ≡ j % 4 = counts_scattered m j p (counts_place known i l) (first_there c m p there) in
      value_near m u j hm within (h.pilot u j within hj (scattered_is c.mode (u % 68) (3 * j) (scattered_where u j same_place))) in
      let some : 1 ≤ length ps = some_counts c m d hm wide less in
      let total : sum_ℤ taps ps ≡ pos 4096 =
      subst (λ (qs : List ℕ). whole f d qs ≡ pos 4096) (sym known.is) (sum_is f d known.test less (subst (λ (qs : List ℕ). 1 ≤ length qs) known.is some)) in
      let small : size f d ps ≤ 5620 = subst (λ (qs : List ℕ). size f d qs ≤ 5620) (sym known.is) (few f d known.test less) in
      let ka = pos 357908480 *ℤ a in
      let kb = pos 357908480 *ℤ b in
      let to_a : sum_ℤ (λ i. taps i *ℤ ka) ps ≡ pos 4096 *ℤ ka = one_target ps taps ka ∙ ap (λ (z : ℤ). z *ℤ ka) total in
      let to_b : sum_ℤ (λ i. taps i *ℤ kb) ps ≡ pos 4096 *ℤ kb = one_target ps taps kb ∙ ap (λ (z : ℤ). z *ℤ kb) total in
      let re = weighted 16384 (120156 * r) ps taps (λ p. (v p).re) (λ p. ka) (λ i l. (each i l).re) in
      let im = weighted 16384 (120156 * r) ps taps (λ p. (v p).im) (λ p. kb) (λ i l. (each i l).im) in
      let sum = sum_of (λ p. scaled (taps p) (v p)) ps in
      let bound = size f d ps * (120156 * r) in
      let sum_re : Below (pos 16384 *ℤ sum.re -ℤ pos 4096 *ℤ ka) bound =
      subst (λ (z : ℤ). Below (pos 16384 *ℤ z -ℤ pos 4096 *ℤ ka) bound) (sym (re_of_sum ps (λ p. scaled (taps p) (v p)))) (subst (λ (z : ℤ). Below (pos 16384 *ℤ sum_ℤ (λ i. taps i *ℤ (v i).re) ps -ℤ z) bound) to_a re) in
      let sum_im : Below (pos 16384 *ℤ sum.im -ℤ pos 4096 *ℤ kb) bound =
      subst (λ (z : ℤ). Below (pos 16384 *ℤ z -ℤ pos 4096 *ℤ kb) bound) (sym (im_of_sum ps (λ p. scaled (taps p) (v p)))) (subst (λ (z : ℤ). Below (pos 16384 *ℤ sum_ℤ (λ i. taps i *ℤ (v i).im) ps -ℤ z) bound) to_b im) in
      record { re = part_near sum.re a r (size f d ps) small amp.least sum_re; im = part_near sum.im b r (size f d ps) small amp.least sum_im }
