-- A symbol depends on no symbol beyond the next seven.
use Rattle.std.proofs.Common.{◌≡◌, ℕ, zero, suc, ◌+◌, ◌-◌, ◌*◌, ◌/◌, ◌<◌, ◌≤◌, List, [], ◌∷◌, ◌++◌, length, get_or, Bool, true, false, not, nat_le, nat_lt, refl, ap, sym, ◌∙◌, subst, arith, map, min, cond}
use Rattle.std.specs.Prelude.{◌&&◌, ◌==◌, if◌then◌else◌, pos, Option, Some, None, filter, sum_by}
use Rattle.std.specs.List.{list_any, range_with_len}
use Rattle.std.proofs.lemmas.Bool.Decides.{nat_tests}
use Rattle.std.proofs.lemmas.List.FromFn.{length-range_with_len, get_or-range_with_len}
use Rattle.spec_words.specs.Words.{numbers}
use Rattle.spec_words.proofs.Counting.{length-numbers, get_or-numbers}
use Rattle.mode_set.specs.declared.modes.Guard.{Guard}
use Rattle.mode_set.specs.declared.modes.Mode.{Mode}
use Rattle.tracking.specs.BadSymbols.{lesser_change, middle, is_bad}
use Rattle.tracking.specs.Comb.{Comb, continual_points, correlation, turn, turned_value, window, window_end, is_inside, change}
use Rattle.tracking.specs.InTime.{distance, place, symbol_at, is_there, is_good, counting, counting_of, gain_by, tap_at, point_gain}
use Rattle.tracking.specs.Moving.{tap, is_seen, predicted, residue, follows, mean_residue, motion, motion_of}
use Rattle.tracking.specs.declared.motion.Motion.{Motion}
use Rattle.tracking.specs.declared.motion.Motion.TheVariants.{Slow, Fast}
use Rattle.tracking.proofs.Same.{sum_same, total_same, map_same, filter_same, any_same, passed}
use Rattle.track_arithmetic.specs.Middle.{middle_of}
use Rattle.track_arithmetic.specs.Numbers.{times, minus, conjugate, scaled, power, sum_of, shifted, near, forward, direction}
use Rattle.track_arithmetic.specs.declared.complex.Complex.{Complex}

-- both combs have the same first n symbols
pub record Agree (c d : Comb) (n : ℕ) : Type 0 where
  pub mode : c.mode ≡ d.mode
  pub here : n ≤ c.count
  pub there : n ≤ d.count
  pub value : (t j : ℕ) → t < n → c.value t j ≡ d.value t j

chosen : (x y : Bool) (p q r s : ℕ) → p ≡ r → (y ≡ true → q ≡ s) → (if x then if y then min p q else p else if y then q else 0) ≡ (if x then if y then min r s else r else if y then s else 0)
chosen true true p q r s one two = ap (λ (z : ℕ). min z q) one ∙ ap (min r) (two refl)
chosen true false p q r s one two = one
chosen false true p q r s one two = two refl
chosen false false p q r s one two = refl

both_true : (x y : Bool) → (x && y) ≡ true → (x ≡ true) × (y ≡ true)
both_true true true e = (refl, refl)
both_true true false e = absurd (grind (arith, e))
both_true false y e = absurd (grind (arith, e))

when : (x y z : Bool) → (x ≡ true → y ≡ z) → (x && y) ≡ (x && z)
when true y z h = h refl
when false y z h = refl

below_four : (i : ℕ) → i < length (numbers 4) → get_or (numbers 4) i 0 < 4
below_four i h = let lt : i < 4 = omega (arith, h, length-numbers 4) in let e = get_or-numbers 4 i lt in omega (arith, e, lt)

-- the symbols of the window are before its end
pub in_window : (c : Comb) (m i : ℕ) → i < length (window c m) → get_or (window c m) i 0 < window_end c m
unfolding window
in_window c m i h =
    let k = window_end c m - (m - 7) in
    let long = length-range_with_len (m - 7) k in
    let at = get_or-range_with_len (m - 7) k i 0 (omega (arith, h, long)) in
    omega (arith, at, h, long)

module _ (c d : Comb) (n : ℕ) (a : Agree c d n) where
  pub same_correlation : (m t : ℕ) → m < n → t < n → correlation c m t ≡ correlation d m t
  unfolding correlation
  same_correlation m t hm ht =
      let f = λ (j : ℕ). times (c.value m j) (conjugate (c.value t j)) in
      let g = λ (j : ℕ). times (d.value m j) (conjugate (d.value t j)) in
      let each : (j : ℕ) → f j ≡ g j = λ j. ap (λ (z : Complex). times z (conjugate (c.value t j))) (a.value m j hm) ∙ ap (λ (z : Complex). times (d.value m j) (conjugate z)) (a.value t j ht) in
      ap (λ (z : Mode). shifted 8 (sum_of f (continual_points z))) a.mode ∙ ap (shifted 8) (sum_same (continual_points d.mode) f g (λ i h. each (get_or (continual_points d.mode) i 0)))

  pub same_turn : (m t : ℕ) → m < n → t < n → turn c m t ≡ turn d m t
  unfolding turn
  same_turn m t hm ht = ap (λ (z : Complex). if m == t then forward else direction z) (same_correlation m t hm ht)

  pub same_value : (m t j : ℕ) → m < n → t < n → turned_value c m t j ≡ turned_value d m t j
  unfolding turned_value
  same_value m t j hm ht = ap (λ (z : Complex). times z (turn c m t)) (a.value t j ht) ∙ ap (times (d.value t j)) (same_turn m t hm ht)

  pub same_change : (t : ℕ) → t < n → change c t ≡ change d t
  unfolding change
  same_change t h =
      let f = λ (j : ℕ). power (minus (c.value t j) (near 14 (turned_value c t (t - 1) j))) in
      let g = λ (j : ℕ). power (minus (d.value t j) (near 14 (turned_value d t (t - 1) j))) in
      let each : (j : ℕ) → f j ≡ g j = λ j. ap (λ (z : Complex). power (minus z (near 14 (turned_value c t (t - 1) j)))) (a.value t j h) ∙ ap (λ (z : Complex). power (minus (d.value t j) (near 14 z))) (same_value t (t - 1) j h (omega (arith, h))) in
      ap (λ (z : Mode). sum_by f (continual_points z)) a.mode ∙ total_same (continual_points d.mode) f g (λ i k. each (get_or (continual_points d.mode) i 0))

  -- from here on, symbol m and the seven after it are among the n
  same_end : (m : ℕ) → m + 8 ≤ n → window_end c m ≡ window_end d m
  same_end m h = omega (arith, h, a.here, a.there)

  pub same_window : (m : ℕ) → m + 8 ≤ n → window c m ≡ window d m
  unfolding window
  same_window m h = ap (λ (z : ℕ). range_with_len (m - 7) (z - (m - 7))) (same_end m h)

  pub same_lesser : (m t : ℕ) → m + 8 ≤ n → t < m + 8 → lesser_change c m t ≡ lesser_change d m t
  unfolding lesser_change
  same_lesser m t h k =
      let e : window_end d m ≡ m + 8 = omega (arith, h, a.there) in
      let next : nat_lt (t + 1) (window_end d m) ≡ true → change c (t + 1) ≡ change d (t + 1) = λ f. let lt : t + 1 < window_end d m = grind (arith, nat_tests, f) in same_change (t + 1) (omega (arith, lt, e, h)) in
      ap (λ (z : ℕ). if nat_lt (m - 7) t then if nat_lt (t + 1) z then min (change c t) (change c (t + 1)) else change c t else if nat_lt (t + 1) z then change c (t + 1) else 0) (same_end m h)
      ∙ chosen (nat_lt (m - 7) t) (nat_lt (t + 1) (window_end d m)) (change c t) (change c (t + 1)) (change d t) (change d (t + 1)) (same_change t (omega (arith, h, k))) next

  pub same_middle : (m : ℕ) → m + 8 ≤ n → middle c m ≡ middle d m
  unfolding middle
  same_middle m h =
      let e : window_end d m ≡ m + 8 = omega (arith, h, a.there) in
      ap (λ (z : List ℕ). middle_of (map (lesser_change c m) z)) (same_window m h)
      ∙ ap middle_of (map_same (window d m) (lesser_change c m) (lesser_change d m) (λ i k. let lt = in_window d m i k in same_lesser m (get_or (window d m) i 0) h (omega (arith, lt, e))))

  pub same_bad : (m t : ℕ) → m + 8 ≤ n → t < m + 8 → is_bad c m t ≡ is_bad d m t
  unfolding is_bad
  same_bad m t h k = ap (λ (z : ℕ). nat_lt (4 * z) (lesser_change c m t)) (same_middle m h) ∙ ap (nat_lt (4 * middle d m)) (same_lesser m t h k)

  -- ---- motion
  five_before : (m i : ℕ) → i < 5 → get_or ((m - 6) ∷ (m - 2) ∷ m ∷ (m + 2) ∷ (m + 6) ∷ []) i 0 < m + 8
  five_before m zero h = omega arith
  five_before m (suc zero) h = omega arith
  five_before m (suc (suc zero)) h = omega arith
  five_before m (suc (suc (suc zero))) h = omega arith
  five_before m (suc (suc (suc (suc zero)))) h = omega arith
  five_before m (suc (suc (suc (suc (suc i))))) h = absurd (omega (arith, h))

  pub same_seen : (m : ℕ) → m + 8 ≤ n → is_seen c m ≡ is_seen d m
  unfolding is_seen
  same_seen m h =
      let five = (m - 6) ∷ (m - 2) ∷ m ∷ (m + 2) ∷ (m + 6) ∷ [] in
      let here : nat_lt (m + 6) c.count ≡ true = let lt : m + 6 < c.count = omega (arith, h, a.here) in grind (arith, nat_tests, lt) in
      let there : nat_lt (m + 6) d.count ≡ true = let lt : m + 6 < d.count = omega (arith, h, a.there) in grind (arith, nat_tests, lt) in
      let bad : list_any (is_bad c m) five ≡ list_any (is_bad d m) five = any_same five (is_bad c m) (is_bad d m) (λ i k. same_bad m (get_or five i 0) h (five_before m i k)) in
      ap (λ (z : Bool). (nat_le 6 m && z) && not (list_any (is_bad c m) five)) (here ∙ sym there) ∙ ap (λ (z : Bool). (nat_le 6 m && nat_lt (m + 6) d.count) && not z) bad

  pub same_residue : (f : Motion) (m : ℕ) → m + 8 ≤ n → residue c f m ≡ residue d f m
  unfolding residue
  same_residue f m h =
      let four : (j i : ℕ) → i < length (numbers 4) → scaled (tap f 2 (get_or (numbers 4) i 0)) (turned_value c m (m + 4 * get_or (numbers 4) i 0 - 6) j) ≡ scaled (tap f 2 (get_or (numbers 4) i 0)) (turned_value d m (m + 4 * get_or (numbers 4) i 0 - 6) j) = λ j i k.
      let lt : get_or (numbers 4) i 0 < 4 = below_four i k in
      ap (scaled (tap f 2 (get_or (numbers 4) i 0))) (same_value m (m + 4 * get_or (numbers 4) i 0 - 6) j (omega (arith, h)) (omega (arith, h, lt))) in
      let each : (j : ℕ) → power (minus (c.value m j) (predicted c f m j)) ≡ power (minus (d.value m j) (predicted d f m j)) = λ j.
      ap (λ (z : Complex). power (minus z (predicted c f m j))) (a.value m j (omega (arith, h)))
      ∙ ap (λ (z : Complex). power (minus (d.value m j) (near 26 z))) (sum_same (numbers 4) (λ (i : ℕ). scaled (tap f 2 i) (turned_value c m (m + 4 * i - 6) j)) (λ (i : ℕ). scaled (tap f 2 i) (turned_value d m (m + 4 * i - 6) j)) (four j)) in
      ap (λ (z : Mode). sum_by (λ (j : ℕ). power (minus (c.value m j) (predicted c f m j))) (continual_points z)) a.mode
      ∙ total_same (continual_points d.mode) (λ (j : ℕ). power (minus (c.value m j) (predicted c f m j))) (λ (j : ℕ). power (minus (d.value m j) (predicted d f m j))) (λ i k. each (get_or (continual_points d.mode) i 0))

  pub same_mean : (f : Motion) (m : ℕ) → m + 8 ≤ n → mean_residue c f m ≡ mean_residue d f m
  unfolding mean_residue
  same_mean f zero h = refl
  same_mean f (suc m) h =
      let before = same_mean f m (omega (arith, h)) in
      ap (λ (z : Bool). if z then Some (follows (mean_residue c f m) (residue c f (suc m))) else mean_residue c f m) (same_seen (suc m) h)
      ∙ ap (λ (z : ℕ). if is_seen d (suc m) then Some (follows (mean_residue c f m) z) else mean_residue c f m) (same_residue f (suc m) h)
      ∙ ap (λ (z : Option ℕ). if is_seen d (suc m) then Some (follows z (residue d f (suc m))) else z) before

  pub same_motion : (g : Guard) (m : ℕ) → m + 8 ≤ n → motion g c m ≡ motion g d m
  unfolding motion
  same_motion g m h = ap (λ (z : Option ℕ). motion_of g z (mean_residue c Fast m)) (same_mean Slow m h) ∙ ap (motion_of g (mean_residue d Slow m)) (same_mean Fast m h)

  -- ---- interpolation in time
  same_there : (m p : ℕ) → m + 8 ≤ n → is_there c m p ≡ is_there d m p
  same_there m p h = ap (λ (z : ℕ). nat_le 7 (m + p) && (nat_le (m - 7) (symbol_at m p) && nat_lt (symbol_at m p) z)) (same_end m h)

  before_end : (m p : ℕ) → m + 8 ≤ n → is_there d m p ≡ true → symbol_at m p < m + 8
  before_end m p h e =
      let inside = (both_true (nat_le 7 (m + p)) (is_inside d m (symbol_at m p)) e).1 in
      let last = (both_true (nat_le (m - 7) (symbol_at m p)) (nat_lt (symbol_at m p) (window_end d m)) inside).1 in
      let lt : symbol_at m p < window_end d m = grind (arith, nat_tests, last) in
      omega (arith, lt)

  same_good : (m p : ℕ) → m + 8 ≤ n → is_good c m p ≡ is_good d m p
  same_good m p h =
      ap (λ (z : Bool). z && not (is_bad c m (symbol_at m p))) (same_there m p h)
      ∙ when (is_there d m p) (not (is_bad c m (symbol_at m p))) (not (is_bad d m (symbol_at m p))) (λ e. ap not (same_bad m (symbol_at m p) h (before_end m p h e)))

  pub same_counting : (m q : ℕ) → m + 8 ≤ n → counting c m q ≡ counting d m q
  unfolding counting
  same_counting m q h =
      let four = map (place q) (numbers 4) in
      ap (λ (z : List ℕ). counting_of z (filter (is_there c m) four)) (filter_same four (is_good c m) (is_good d m) (λ i k. same_good m (get_or four i 0) h))
      ∙ ap (counting_of (filter (is_good d m) four)) (filter_same four (is_there c m) (is_there d m) (λ i k. same_there m (get_or four i 0) h))

  all_there : (m : ℕ) (ps : List ℕ) → ((i : ℕ) → i < length (counting_of (filter (is_good d m) ps) (filter (is_there d m) ps)) → is_there d m (get_or (counting_of (filter (is_good d m) ps) (filter (is_there d m) ps)) i 0) ≡ true)
  all_there m ps = of_good (filter (is_good d m) ps) (λ i h. (both_true (is_there d m (get_or (filter (is_good d m) ps) i 0)) (not (is_bad d m (symbol_at m (get_or (filter (is_good d m) ps) i 0)))) (passed ps (is_good d m) i h)).0)
    where
      of_good : (good : List ℕ) → ((i : ℕ) → i < length good → is_there d m (get_or good i 0) ≡ true) → (i : ℕ) → i < length (counting_of good (filter (is_there d m) ps)) → is_there d m (get_or (counting_of good (filter (is_there d m) ps)) i 0) ≡ true
      of_good [] h i k = passed ps (is_there d m) i k
      of_good (p ∷ rest) h i k = h i k

  counted : (m q i : ℕ) → i < length (counting d m q) → is_there d m (get_or (counting d m q) i 0) ≡ true
  unfolding counting
  counted m q i k = all_there m (map (place q) (numbers 4)) i k

  pub same_point : (g : Guard) (m j : ℕ) → m + 8 ≤ n → point_gain g c m j ≡ point_gain g d m j
  unfolding point_gain
  same_point g m j h =
      let q = distance m j in
      let ps = counting d m q in
      ap (λ (z : Motion). gain_by c m j z (counting c m q)) (same_motion g m h) ∙ ap (gain_by c m j (motion g d m)) (same_counting m q h)
      ∙ ap (near 22) (sum_same ps (λ (p : ℕ). scaled (tap_at (motion g d m) q ps p) (turned_value c m (symbol_at m p) j)) (λ (p : ℕ). scaled (tap_at (motion g d m) q ps p) (turned_value d m (symbol_at m p) j))
      (λ i k. ap (scaled (tap_at (motion g d m) q ps (get_or ps i 0))) (same_value m (symbol_at m (get_or ps i 0)) j (omega (arith, h)) (let lt = before_end m (get_or ps i 0) h (counted m q i k) in omega (arith, lt, h)))))
