-- The size of the gain at a comb point.
use Rattle.std.proofs.Common.{◌≡◌, ℕ, zero, suc, ◌+◌, ◌*◌, ◌^◌, ◌<◌, ◌≤◌, List, [], ◌∷◌, length, refl, sym, ap, subst, arith, Bool, true, false, get_or}
use Rattle.std.specs.Prelude.{ℤ, nat_abs, ◌*ℤ◌, ◌+ℤ◌, ◌==◌, if◌then◌else◌, sum_by}
use Rattle.std.proofs.lemmas.Bool.{ne_eqb}
use Rattle.std.proofs.lemmas.List.Sums.{sum_by-cons}
use Rattle.std.proofs.lemmas.Nat.{mod_below}
use Rattle.spec_words.proofs.Sizes.{Below, times_below, plus_below}
use Rattle.tracking.specs.Comb.{Comb, correlation, turn, turned_value}
use Rattle.tracking.specs.InTime.{distance, symbol_at, counting, tap_at, point_gain}
use Rattle.tracking.specs.Moving.{motion}
use Rattle.law_tracking.specs.Sizes.{TurnsAreSmall, PointGainsAreSmall}
use Rattle.law_tracking.proofs.Counting.{counting_is, counts_there, inside}
use Rattle.law_tracking.proofs.Taps.{size, few}
use Rattle.track_arithmetic.specs.Laws.{IsWithin}
use Rattle.track_arithmetic.specs.Numbers.{scaled, power, sum_of, near, forward, root, direction, direction_by, direction_part}
use Rattle.track_arithmetic.specs.declared.complex.Complex.{Complex}
use Rattle.track_arithmetic.proofs.Halves.{near_below}
use Rattle.track_arithmetic.proofs.Products.{times_within}
use Rattle.track_arithmetic.proofs.Roots.{part_within, part_at_most}

-- ---- turns
by_some : (s : ℕ) (x : Complex) → 0 < s → direction_by s x ≡ record { re = direction_part x.re s; im = direction_part x.im s }
by_some s x h = ap (λ (t : Bool). if t then forward else record { re = direction_part x.re s; im = direction_part x.im s }) (ne_eqb s 0 (λ e. omega (arith, e, h)))

by_within : (s : ℕ) (x : Complex) → nat_abs x.re ≤ s → nat_abs x.im ≤ s → IsWithin (2 ^ 14) (direction_by s x)
by_within zero x h k = record { re = omega arith; im = omega arith }
by_within (suc s) x h k =
    let parts : IsWithin (2 ^ 14) (record { re = direction_part x.re (suc s); im = direction_part x.im (suc s) }) = record { re = part_within x.re (suc s) (omega arith) h; im = part_within x.im (suc s) (omega arith) k } in
    subst (IsWithin (2 ^ 14)) (sym (by_some (suc s) x (omega arith))) parts

pub direction_within : (x : Complex) → IsWithin (2 ^ 14) (direction x)
unfolding direction
direction_within x = by_within (root (power x)) x (part_at_most (nat_abs x.re) (power x) (power x) (root (power x)) refl refl (omega arith)) (part_at_most (nat_abs x.im) (power x) (power x) (root (power x)) refl refl (omega arith))

chosen_within : (b : Bool) (x : Complex) → IsWithin (2 ^ 14) x → IsWithin (2 ^ 14) (if b then forward else x)
chosen_within true x h = record { re = omega arith; im = omega arith }
chosen_within false x h = h

pub turns : TurnsAreSmall
unfolding turn
turns c m t = chosen_within (m == t) (direction (correlation c m t)) (direction_within (correlation c m t))

pub value_within : (c : Comb) (m t j : ℕ) → IsWithin (2 ^ 15) (c.value t j) → IsWithin (2 ^ 30) (turned_value c m t j)
unfolding turned_value
value_within c m t j h = times_within (c.value t j) (turn c m t) (2 ^ 15) (2 ^ 14) h (turns c m t)

-- ---- sums of scaled values
pub sum_within : (ps : List ℕ) (t : ℕ → ℤ) (v : ℕ → Complex) (k : ℕ) → ((i : ℕ) → i < length ps → IsWithin k (v (get_or ps i 0))) → IsWithin (sum_by (λ p. nat_abs (t p)) ps * k) (sum_of (λ p. scaled (t p) (v p)) ps)
unfolding sum_of
sum_within [] t v k h = record { re = omega arith; im = omega arith }
sum_within (p ∷ ps) t v k h =
    let r = sum_within ps t v k (λ i l. h (suc i) (omega (arith, l))) in
    let one : IsWithin k (v p) = h 0 (omega arith) in
    let here : Below (t p) (nat_abs (t p)) = record { below = omega arith } in
    let one_re : Below (v p).re k = record { below = one.re } in
    let one_im : Below (v p).im k = record { below = one.im } in
    let rest_re : Below (sum_of (λ p. scaled (t p) (v p)) ps).re (sum_by (λ p. nat_abs (t p)) ps * k) = record { below = r.re } in
    let rest_im : Below (sum_of (λ p. scaled (t p) (v p)) ps).im (sum_by (λ p. nat_abs (t p)) ps * k) = record { below = r.im } in
    let re = plus_below (times_below here one_re) rest_re in
    let im = plus_below (times_below here one_im) rest_im in
    let e = sum_by-cons (λ (p : ℕ). nat_abs (t p)) p ps in
    let S = sum_of (λ p. scaled (t p) (v p)) ps in
    let all = sum_by (λ p. nat_abs (t p)) (p ∷ ps) in
    let re_is : nat_abs (t p *ℤ (v p).re +ℤ S.re) ≤ all * k = omega (arith, ap (λ (z : ℕ). z * k) e, re.below) in
    let im_is : nat_abs (t p *ℤ (v p).im +ℤ S.im) ≤ all * k = omega (arith, ap (λ (z : ℕ). z * k) e, im.below) in
    record { re = re_is; im = im_is }

pub near_within : (s n : ℕ) (x : Complex) → 1 ≤ s → IsWithin (2 ^ s * n) x → IsWithin n (near s x)
near_within s n x some h = record { re = near_below x.re s n some h.re; im = near_below x.im s n some h.im }

pub wider : (m n : ℕ) (x : Complex) → m ≤ n → IsWithin m x → IsWithin n x
wider m n x h k = record { re = omega (arith, h, k.re); im = omega (arith, h, k.im) }

-- ---- the gain
pub gains : PointGainsAreSmall
unfolding point_gain
gains g c m j cells =
    let d = distance m j in
    let ps = counting c m d in
    let f = motion g c m in
    let known = counting_is c m d in
    let less : d < 4 = mod_below (m + 3 * j) 4 (omega arith) in
    let small : size f d ps ≤ 5620 = subst (λ (qs : List ℕ). size f d qs ≤ 5620) (sym known.is) (few f d known.test less) in
    let each : (i : ℕ) → i < length ps → IsWithin (2 ^ 30) (turned_value c m (symbol_at m (get_or ps i 0)) j) = λ i l.
    value_within c m (symbol_at m (get_or ps i 0)) j (cells (symbol_at m (get_or ps i 0)) j (inside c m (get_or ps i 0) (counts_there known i l))) in
    let all = sum_within ps (tap_at f d ps) (λ p. turned_value c m (symbol_at m p) j) (2 ^ 30) each in
    near_within 22 1438720 (sum_of (λ p. scaled (tap_at f d ps p) (turned_value c m (symbol_at m p) j)) ps) (omega arith) (wider (size f d ps * 2 ^ 30) (2 ^ 22 * 1438720) _ (omega (arith, small)) all)
