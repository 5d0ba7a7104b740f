-- The gain at a comb point of a channel that does not change.
use Rattle.std.proofs.Common.{◌≡◌, ℕ, zero, suc, ◌+◌, ◌*◌, ◌/◌, ◌%◌, ◌^◌, ◌<◌, ◌≤◌, List, [], ◌∷◌, length, get_or, refl, sym, ap, ap₂, ◌∙◌, subst, arith, Bool, true, false}
use Rattle.std.specs.Prelude.{ℤ, pos, negsuc, neg_ℤ, nat_abs, ◌+ℤ◌, ◌-ℤ◌, ◌*ℤ◌, ◌==◌, if◌then◌else◌, sum_by}
use Rattle.std.proofs.lemmas.Bool.{ne_eqb}
use Rattle.std.proofs.lemmas.List.Sums.{sum_by-cons}
use Rattle.std.proofs.lemmas.Nat.{mod_below}
use Rattle.spec_words.proofs.Floors.{IsFloor, floor_is, same_floor}
use Rattle.spec_words.proofs.Ring.{Is, itself, number, plus, opposite, less, same}
use Rattle.spec_words.proofs.Ring as ring
use Rattle.mode_set.specs.declared.modes.Guard.{Guard}
use Rattle.mode_set.specs.declared.modes.Mode.{Mode}
use Rattle.mode_set.specs.StreamTable.{carriers}
use Rattle.pilots.specs.Around.{is_pilot}
use Rattle.pilots.specs.Reference.{reference}
use Rattle.qam_map.specs.Cells.{cell_of}
use Rattle.qam_map.specs.declared.cell.Cell.{Cell}
use Rattle.tracking.specs.Comb.{Comb, comb_of, points, pilot, unturned, continual_points, correlation, turn, turned_value}
use Rattle.tracking.specs.InTime.{distance, symbol_at, counting, tap_at, sum_ℤ, point_gain}
use Rattle.tracking.specs.Moving.{motion}
use Rattle.tracking.proofs.Same.{sum_same}
use Rattle.law_tracking.specs.Steady.{AreSteady, SteadyGainsAreExact}
use Rattle.law_tracking.proofs.Counting.{counting_is, counts_there, counts_place, counts_scattered, first_there, inside, some_counts}
use Rattle.law_tracking.proofs.Pilots.{scattered_is, scattered_where, scattered_only, continual_within, continual_pilot}
use Rattle.law_tracking.proofs.Taps.{whole, sum_is}
use Rattle.track_arithmetic.specs.Numbers.{times, conjugate, scaled, power, sum_of, shifted, near, floor, forward, direction, direction_by, direction_part}
use Rattle.track_arithmetic.specs.declared.complex.Complex.{Complex}
use Rattle.track_arithmetic.proofs.Roots.{root_is}

abbrev pub complex : ℤ → ℤ → Complex
complex re im = record { re = re; im = im }

pub same_parts : {a b c d : ℤ} → a ≡ b → c ≡ d → complex a c ≡ complex b d
same_parts p q = ap₂ complex p q

-- ---- the turn
square_is : (u : ℤ) → u *ℤ u ≡ pos (nat_abs u * nat_abs u)
square_is (pos n) = refl
square_is (negsuc n) = refl

own_product : (x : Complex) → times x (conjugate x) ≡ complex (pos (power x)) (pos 0)
own_product x =
    let r = itself x.re in let i = itself x.im in
    let re : x.re *ℤ x.re -ℤ x.im *ℤ neg_ℤ x.im ≡ x.re *ℤ x.re +ℤ x.im *ℤ x.im = same (less (ring.times r r) (ring.times i (opposite i))) (plus (ring.times r r) (ring.times i i)) (omega arith) in
    let im : x.re *ℤ neg_ℤ x.im +ℤ x.im *ℤ x.re ≡ pos 0 = same (plus (ring.times r (opposite i)) (ring.times i r)) (number 0) (omega arith) in
    same_parts (re ∙ ap₂ (λ (y z : ℤ). y +ℤ z) (square_is x.re) (square_is x.im)) im

own_products : (is : List ℕ) (v : ℕ → Complex) → sum_of (λ j. times (v j) (conjugate (v j))) is ≡ complex (pos (sum_by (λ j. power (v j)) is)) (pos 0)
unfolding sum_of
own_products [] v = refl
own_products (i ∷ is) v =
    let p = own_product (v i) in
    let r = own_products is v in
    let e : pos (power (v i) + sum_by (λ j. power (v j)) is) ≡ pos (sum_by (λ j. power (v j)) (i ∷ is)) = ap pos (sym (sum_by-cons (λ (j : ℕ). power (v j)) i is)) in
    ap₂ (λ (x y : Complex). complex (x.re +ℤ y.re) (x.im +ℤ y.im)) p r ∙ same_parts e refl

shifted_is : (n : ℕ) → shifted 8 (complex (pos n) (pos 0)) ≡ complex (pos (n / 256)) (pos 0)
shifted_is n = refl

-- the direction of a positive number
real_is : (s : ℕ) → 0 < s → direction_part (pos s) s ≡ pos 16384
real_is s some = same_floor (floor_is (pos (32768 * s + s)) (2 * s) (omega (arith, some))) (let f : IsFloor (pos (32768 * s + s)) (pos 16384) (2 * s) = record { low = omega (arith, some); high = omega (arith, some) } in f)

imaginary_is : (s : ℕ) → 0 < s → direction_part (pos 0) s ≡ pos 0
imaginary_is s some = same_floor (floor_is (pos (32768 * 0 + s)) (2 * s) (omega (arith, some))) (let f : IsFloor (pos (32768 * 0 + s)) (pos 0) (2 * s) = record { low = omega (arith, some); high = omega (arith, some) } in f)

by_itself : (s : ℕ) → direction_by s (complex (pos s) (pos 0)) ≡ forward
by_itself zero = refl
by_itself (suc s) =
    ap (λ (t : Bool). if t then forward else complex (direction_part (pos (suc s)) (suc s)) (direction_part (pos 0) (suc s))) (ne_eqb (suc s) 0 (λ e. omega (arith, e)))
    ∙ same_parts (real_is (suc s) (omega arith)) (imaginary_is (suc s) (omega arith))

forward_is : (a : ℕ) → direction (complex (pos a) (pos 0)) ≡ forward
unfolding direction
forward_is a = ap (λ (s : ℕ). direction_by s (complex (pos a) (pos 0))) (sym (root_is (power (complex (pos a) (pos 0))) a (omega arith) (omega arith))) ∙ by_itself a

chosen : (b : Bool) (x : Complex) → x ≡ forward → (if b then forward else x) ≡ forward
chosen true x e = refl
chosen false x e = e

-- ---- sums
forward_turns : (x : Complex) → times x forward ≡ scaled (pos 16384) x
forward_turns x =
    let r = itself x.re in let i = itself x.im in let n = number 16384 in let o = number 0 in
    same_parts (same (less (ring.times r n) (ring.times i o)) (ring.times n r) (omega arith)) (same (plus (ring.times r o) (ring.times i n)) (ring.times n i) (omega arith))

common : (s t z : ℤ) → s *ℤ z +ℤ t *ℤ z ≡ (s +ℤ t) *ℤ z
common s t z = same (plus (ring.times (itself s) (itself z)) (ring.times (itself t) (itself z))) (ring.times (plus (itself s) (itself t)) (itself z)) (omega arith)

none : (z : ℤ) → pos 0 ≡ pos 0 *ℤ z
none z = same (number 0) (ring.times (number 0) (itself z)) (omega arith)

pub sum_scaled : (ps : List ℕ) (t : ℕ → ℤ) (x : Complex) → sum_of (λ p. scaled (t p) x) ps ≡ scaled (sum_ℤ t ps) x
unfolding sum_of
sum_scaled [] t x = same_parts (none x.re) (none x.im)
sum_scaled (p ∷ ps) t x =
    ap (λ (y : Complex). complex (t p *ℤ x.re +ℤ y.re) (t p *ℤ x.im +ℤ y.im)) (sum_scaled ps t x) ∙ same_parts (common (t p) (sum_ℤ t ps) x.re) (common (t p) (sum_ℤ t ps) x.im)

part_is : (z : ℤ) → floor (pos 4096 *ℤ (pos 16384 *ℤ z) +ℤ pos (2 ^ 21)) (2 ^ 22) ≡ pos 16 *ℤ z
part_is z =
    let t = pos 4096 *ℤ (pos 16384 *ℤ z) +ℤ pos (2 ^ 21) in
    let t_is = (plus (ring.times (number 4096) (ring.times (number 16384) (itself z))) (number (2 ^ 21))).is in
    let q_is = (ring.times (number 16) (itself z)).is in
    same_floor (floor_is t (2 ^ 22) (omega arith)) (let f : IsFloor t (pos 16 *ℤ z) (2 ^ 22) = record { low = omega (arith, t_is, q_is); high = omega (arith, t_is, q_is) } in f)

-- ---- the gain
pub record HasSteady (c : Comb) : Type 0 where
  pub same : (t u j : ℕ) → t < c.count → u < c.count → j < points c.mode → is_pilot c.mode (t % 68) (3 * j) ≡ true → is_pilot c.mode (u % 68) (3 * j) ≡ true → c.value t j ≡ c.value u j

module _ (c : Comb) (h : HasSteady c) where
  steady_turn : (m t : ℕ) → m < c.count → t < c.count → turn c m t ≡ forward
  unfolding turn correlation
  steady_turn m t hm ht =
      let is = continual_points c.mode in
      let each : (i : ℕ) → i < length is → times (c.value m (get_or is i 0)) (conjugate (c.value t (get_or is i 0))) ≡ times (c.value t (get_or is i 0)) (conjugate (c.value t (get_or is i 0))) = λ i l.
      ap (λ (z : Complex). times z (conjugate (c.value t (get_or is i 0)))) (h.same m t (get_or is i 0) hm ht (continual_within c.mode i l) (continual_pilot c.mode (m % 68) i l) (continual_pilot c.mode (t % 68) i l)) in
      let n = sum_by (λ j. power (c.value t j)) is in
      let sum : sum_of (λ j. times (c.value m j) (conjugate (c.value t j))) is ≡ complex (pos n) (pos 0) =
      sum_same is (λ (j : ℕ). times (c.value m j) (conjugate (c.value t j))) (λ (j : ℕ). times (c.value t j) (conjugate (c.value t j))) each ∙ own_products is (c.value t) in
      chosen (m == t) (direction (shifted 8 (sum_of (λ j. times (c.value m j) (conjugate (c.value t j))) is))) (ap (λ (z : Complex). direction (shifted 8 z)) sum ∙ ap direction (shifted_is n) ∙ forward_is (n / 256))

  steady_value : (m t j : ℕ) → m < c.count → t < c.count → turned_value c m t j ≡ scaled (pos 16384) (c.value t j)
  unfolding turned_value
  steady_value m t j hm ht = ap (times (c.value t j)) (steady_turn m t hm ht) ∙ forward_turns (c.value t j)

  pub steady_gain : (g : Guard) (m t j : ℕ) → 4 ≤ c.count → m < c.count → t < c.count → j < points c.mode → t % 4 ≡ j % 4 → point_gain g c m j ≡ scaled (pos 16) (c.value t j)
  unfolding point_gain
  steady_gain g m t j wide hm ht hj here =
      let d = distance m j in
      let ps = counting c m d in
      let f = motion g c m in
      let known = counting_is c m d in
      let few : d < 4 = mod_below (m + 3 * j) 4 (omega arith) in
      let z = c.value t j in
      let pilot_at : (u : ℕ) → u % 4 ≡ j % 4 → is_pilot c.mode (u % 68) (3 * j) ≡ true = λ u e. scattered_is c.mode (u % 68) (3 * j) (scattered_where u j e) in
      let each : (i : ℕ) → i < length ps → scaled (tap_at f d ps (get_or ps i 0)) (turned_value c m (symbol_at m (get_or ps i 0)) j) ≡ scaled (tap_at f d ps (get_or ps i 0)) (scaled (pos 16384) z) = λ i l.
      let p = get_or ps i 0 in
      let u = symbol_at m p in
      let there = counts_there known i l in
      let within : u < c.count = inside c m p there in
      let same_place : u % 4 ≡ j % 4 = counts_scattered m j p (counts_place known i l) (first_there c m p there) in
      ap (scaled (tap_at f d ps p)) (steady_value m u j hm within ∙ ap (scaled (pos 16384)) (h.same u t j within ht hj (pilot_at u same_place) (pilot_at t here))) in
      let some : 1 ≤ length ps = some_counts c m d hm wide few in
      let taps : sum_ℤ (tap_at f d ps) ps ≡ pos 4096 =
      subst (λ (qs : List ℕ). whole f d qs ≡ pos 4096) (sym known.is) (sum_is f d known.test few (subst (λ (qs : List ℕ). 1 ≤ length qs) known.is some)) in
      ap (near 22) (sum_same ps (λ (p : ℕ). scaled (tap_at f d ps p) (turned_value c m (symbol_at m p) j)) (λ (p : ℕ). scaled (tap_at f d ps p) (scaled (pos 16384) z)) each
      ∙ sum_scaled ps (tap_at f d ps) (scaled (pos 16384) z) ∙ ap (λ (n : ℤ). scaled n (scaled (pos 16384) z)) taps)
      ∙ same_parts (part_is z.re) (part_is z.im)

pilot_same : (x y : List Cell) (j : ℕ) → cell_of x (3 * j) ≡ cell_of y (3 * j) → pilot x j ≡ pilot y j
unfolding pilot
pilot_same x y j e = ap (λ (c : Cell). complex (unturned (reference (3 * j)) c.re) (unturned (reference (3 * j)) c.im)) e

carrier_below : (m : Mode) (j : ℕ) → j < points m → 3 * j < carriers m
carrier_below m j h = omega (arith, h)

of_symbols : (mode : Mode) (symbols : List (List Cell)) → AreSteady mode symbols → HasSteady (comb_of mode symbols)
unfolding comb_of
of_symbols mode symbols h = record { same = λ t u j ht hu hj pt pu. pilot_same (get_or symbols t []) (get_or symbols u []) j (h t u (3 * j) ht hu (carrier_below mode j hj) pt pu) }

pub steady : SteadyGainsAreExact
unfolding comb_of
steady guard mode symbols m t j wide h hm ht hj here = steady_gain (comb_of mode symbols) (of_symbols mode symbols h) guard m t j wide hm ht hj (scattered_only t j here)
