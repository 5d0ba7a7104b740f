-- Weighted sums of values close to their targets, and quotients rounded to the nearest.
use Rattle.std.proofs.Common.{◌≡◌, ℕ, suc, ◌+◌, ◌*◌, ◌<◌, List, [], ◌∷◌, length, get_or, ap, refl, ◌∙◌, subst, arith}
use Rattle.std.specs.Prelude.{ℤ, pos, nat_abs, ◌+ℤ◌, ◌-ℤ◌, ◌*ℤ◌, sum_by}
use Rattle.std.proofs.lemmas.Int.{ints}
use Rattle.std.proofs.lemmas.List.Sums.{sum_by-cons}
use borrow.Author.Differences.{sum_is_lem, product_is}
use Rattle.spec_words.proofs.Floors.{floor_is}
use Rattle.spec_words.proofs.Ring.{itself, number, plus, less, times, same}
use Rattle.spec_words.proofs.Sizes.{Below, self_below, plus_below, times_below}
use Rattle.tracking.specs.InTime.{sum_ℤ}
use Rattle.track_arithmetic.specs.Numbers.{floor, sum_of}
use Rattle.track_arithmetic.specs.declared.complex.Complex.{Complex}

-- the parts of a sum
pub re_of_sum : (is : List ℕ) (f : ℕ → Complex) → (sum_of f is).re ≡ sum_ℤ (λ i. (f i).re) is
unfolding sum_of
re_of_sum [] f = refl
re_of_sum (i ∷ is) f = ap (λ (z : ℤ). (f i).re +ℤ z) (re_of_sum is f)

pub im_of_sum : (is : List ℕ) (f : ℕ → Complex) → (sum_of f is).im ≡ sum_ℤ (λ i. (f i).im) is
unfolding sum_of
im_of_sum [] f = refl
im_of_sum (i ∷ is) f = ap (λ (z : ℤ). (f i).im +ℤ z) (im_of_sum is f)

-- the sum of weighted values is as close to that of the weighted targets as the sum of the weights' sizes allows
step : (g : ℕ) (t v k s d : ℤ) → t *ℤ (pos g *ℤ v -ℤ k) +ℤ (pos g *ℤ s -ℤ d) ≡ pos g *ℤ (t *ℤ v +ℤ s) -ℤ (t *ℤ k +ℤ d)
step g t v k s d =
    let g' = number g in let t' = itself t in let v' = itself v in let k' = itself k in let s' = itself s in let d' = itself d in
    same (plus (times t' (less (times g' v') k')) (less (times g' s') d')) (less (times g' (plus (times t' v') s')) (plus (times t' k') d')) (omega arith)

nothing_off : (g e : ℕ) → Below (pos g *ℤ pos 0 -ℤ pos 0) (0 * e)
nothing_off g e = record { below = omega (arith, ints, product_is (pos g) (pos 0)) }

pub weighted : (g e : ℕ) (is : List ℕ) (t v k : ℕ → ℤ) → ((i : ℕ) → i < length is → Below (pos g *ℤ v (get_or is i 0) -ℤ k (get_or is i 0)) e)
    → Below (pos g *ℤ sum_ℤ (λ i. t i *ℤ v i) is -ℤ sum_ℤ (λ i. t i *ℤ k i) is) (sum_by (λ i. nat_abs (t i)) is * e)
weighted g e [] t v k h = nothing_off g e
weighted g e (i ∷ is) t v k h =
    let rest = weighted g e is t v k (λ n l. h (suc n) (omega (arith, l))) in
    let all = plus_below (times_below (self_below (t i)) (h 0 (omega arith))) rest in
    let size : nat_abs (t i) * e + sum_by (λ i. nat_abs (t i)) is * e ≡ sum_by (λ i. nat_abs (t i)) (i ∷ is) * e = let c = ap (λ (z : ℕ). z * e) (sum_by-cons (λ (i : ℕ). nat_abs (t i)) i is) in omega (arith, c) in
    subst (λ (n : ℕ). Below (pos g *ℤ (t i *ℤ v i +ℤ sum_ℤ (λ i. t i *ℤ v i) is) -ℤ (t i *ℤ k i +ℤ sum_ℤ (λ i. t i *ℤ k i) is)) n) size
    (subst (λ (z : ℤ). Below z (nat_abs (t i) * e + sum_by (λ i. nat_abs (t i)) is * e)) (step g (t i) (v i) (k i) (sum_ℤ (λ i. t i *ℤ v i) is) (sum_ℤ (λ i. t i *ℤ k i) is)) all)

-- the same target for all
pub one_target : (is : List ℕ) (t : ℕ → ℤ) (k : ℤ) → sum_ℤ (λ i. t i *ℤ k) is ≡ sum_ℤ t is *ℤ k
one_target [] t k = same (number 0) (times (number 0) (itself k)) (omega arith)
one_target (i ∷ is) t k =
    let s = sum_ℤ t is in
    ap (λ (z : ℤ). t i *ℤ k +ℤ z) (one_target is t k) ∙ same (plus (times (itself (t i)) (itself k)) (times (itself s) (itself k))) (times (plus (itself (t i)) (itself s)) (itself k)) (omega arith)

-- a quotient rounded to the nearest is off by at most half the divisor
pub nearest_off : (x : ℤ) (m : ℕ) → 0 < m → Below (pos (2 * m) *ℤ floor (x +ℤ pos m) (2 * m) -ℤ x) m
nearest_off x m some =
    let q = floor (x +ℤ pos m) (2 * m) in
    let f = floor_is (x +ℤ pos m) (2 * m) (omega (arith, some)) in
    record { below = omega (arith, ints, f.low, f.high, sum_is_lem x (pos m), product_is (pos (2 * m)) q) }
