-- Weighted sums of parts, their sizes, and the gains that they give.
use Rattle.std.proofs.Common.{◌≡◌, ℕ, zero, suc, ◌+◌, ◌-◌, ◌*◌, ◌/◌, ◌%◌, ◌^◌, ◌<◌, ◌≤◌, List, length, get_or, refl, ap, sym, ◌∙◌, subst, arith, add-one, to_z, of_z}
use Rattle.std.specs.Prelude.{ℤ, pos, ◌+ℤ◌, ◌*ℤ◌, nat_abs}
use Rattle.std.specs.Int.{w16, w32}
use Rattle.std.proofs.lemmas.Int.{ints}
use Rattle.std.proofs.Math.Nat.{add-mul-mod_self_left}
use Rattle.spec_words.specs.Words.{numbers}
use Rattle.mode_set.specs.declared.modes.Guard.{Guard}
use Rattle.mode_set.specs.declared.modes.Guard.TheVariants.{G1of32, G1of16, G1of8, G1of4}
use Rattle.mode_set.specs.declared.modes.Mode.{Mode}
use Rattle.tracking.specs.Comb.{points}
use Rattle.tracking.specs.InFrequency.{frequency_row, first_point, slope, interpolated, carrier_gain}
use Rattle.track_arithmetic.specs.Numbers.{cosine, floor, near, nothing, plus, scaled, sum_of, times, turned_by}
use Rattle.track_arithmetic.specs.declared.complex.Complex.{Complex}
use Rattle.track_arithmetic.proofs.Products.{product_below}
use Rattle.track_cells.specs.Gains.{gain_of, AreCentred}
use Rattle.track_cells.specs.Sizes.{size_to}
use Rattle.track_cells.specs.Weighed.{pair, pair_at, part_at, weighed, weighed_to, AreBack}
use Rattle.track_cells.proofs.Centred.{gain_is, sum_by_points}
use Rattle.track_cells.proofs.Sums.{sum_none, sum_more, size_more}

pub weighed_none : (row parts : List ℤ) (n : ℕ) → weighed_to 0 row parts n ≡ pos 0
unfolding weighed_to
weighed_none row parts n = refl

next : (i : ℕ) (row parts : List ℤ) (n : ℕ) → weighed_to (suc i) row parts n ≡ weighed_to i row parts n +ℤ part_at row i *ℤ part_at parts (n + i)
unfolding weighed_to
next i row parts n = refl

pub weighed_more : (i : ℕ) (row parts : List ℤ) (n : ℕ) → weighed_to (i + 1) row parts n ≡ weighed_to i row parts n +ℤ part_at row i *ℤ part_at parts (n + i)
weighed_more i row parts n = ap (λ (z : ℕ). weighed_to z row parts n) (add-one i) ∙ next i row parts n

-- the sum over pairs has the sums of the parts
pub of_pairs : (i : ℕ) (row re im : List ℤ) (n : ℕ) → sum_of (λ (k : ℕ). scaled (get_or row k (pos 0)) (pair_at re im (n + k))) (numbers i) ≡ pair (weighed_to i row re n) (weighed_to i row im n)
of_pairs zero row re im n =
    sum_none (λ (k : ℕ). scaled (get_or row k (pos 0)) (pair_at re im (n + k))) ∙ sym (ap (λ (z : ℤ). pair z (weighed_to 0 row im n)) (weighed_none row re n) ∙ ap (pair (pos 0)) (weighed_none row im n))
of_pairs (suc i) row re im n =
    let f = λ (k : ℕ). scaled (get_or row k (pos 0)) (pair_at re im (n + k)) in
    let one : suc i ≡ i + 1 = sym (add-one i) in
    ap (λ (z : ℕ). sum_of f (numbers z)) one ∙ sum_more f i ∙ ap (λ (z : Complex). plus z (f i)) (of_pairs i row re im n)
    ∙ sym (ap (λ (z : ℤ). pair z (weighed_to (suc i) row im n)) (next i row re n) ∙ ap (pair (weighed_to i row re n +ℤ part_at row i *ℤ part_at re (n + i))) (next i row im n))

-- the weighted sum of twelve pairs, over 2^14
pub pair_weighed : (row re im : List ℤ) (n : ℕ) → pair (weighed row re n) (weighed row im n) ≡ near 14 (sum_of (λ (k : ℕ). scaled (get_or row k (pos 0)) (pair_at re im (n + k))) (numbers 12))
pair_weighed row re im n = sym (ap (near 14) (of_pairs 12 row re im n))

-- a turn of whole turns more
turned_again : (x q : ℕ) → turned_by (x + 64 * q) ≡ turned_by x
unfolding turned_by
turned_again x q =
    let re : (x + 64 * q) % 64 ≡ x % 64 = add-mul-mod_self_left x 64 q in
    let moved : (x + 64 * q) + 48 ≡ (x + 48) + 64 * q = omega arith in
    let im : (x + 64 * q + 48) % 64 ≡ (x + 48) % 64 = ap (λ (z : ℕ). z % 64) moved ∙ add-mul-mod_self_left (x + 48) 64 q in
    ap (λ (z : ℕ). pair (cosine z) (cosine ((x + 64 * q + 48) % 64))) re ∙ ap (λ (z : ℕ). pair (cosine (x % 64)) (cosine z)) im

-- the turns back repeat each 192 carriers
repeats : (g : Guard) (w b : ℕ) → 63 * ((w + 192 * b) * slope g) ≡ 63 * (w * slope g) + 64 * (189 * b * slope g)
repeats G1of4 w b = omega arith
repeats G1of8 w b = omega arith
repeats G1of16 w b = omega arith
repeats G1of32 w b = omega arith

back_again : (g : Guard) (w b : ℕ) → turned_by (63 * (w * slope g)) ≡ turned_by (63 * ((w + 192 * b) * slope g))
back_again g w b = sym (ap turned_by (repeats g w b) ∙ turned_again (63 * (w * slope g)) (189 * b * slope g))

direction_is : (x : ℕ) (c s : ℤ) → c ≡ cosine ((x + 0) % 64) → s ≡ cosine ((x + 48) % 64) → pair c s ≡ turned_by x
unfolding turned_by
direction_is x c s ec es =
    let none : x + 0 ≡ x = omega arith in
    ap (λ (z : ℤ). pair z s) (ec ∙ ap (λ (z : ℕ). cosine (z % 64)) none) ∙ ap (pair (cosine (x % 64))) es

pub back_is : (g : Guard) (cosines sines : List ℤ) (j k b : ℕ) → AreBack g 0 cosines → AreBack g 48 sines → j < 192 → k ≡ 15 + 192 * b + j → pair_at cosines sines j ≡ turned_by (63 * (k * slope g))
back_is g cosines sines j k b hc hs lt e =
    let at : 15 + j + 192 * b ≡ k = omega (arith, e) in
    direction_is (63 * ((15 + j) * slope g)) (part_at cosines j) (part_at sines j) (hc.is j lt) (hs.is j lt) ∙ back_again g (15 + j) b ∙ ap (λ (z : ℕ). turned_by (63 * (z * slope g))) at

-- carrier 15 + 192 b + 3 n + r, of which the points begin at 64 b + n
pub carrier_is : (g : Guard) (m : Mode) (h : ℕ → Complex) (all : List Complex) (re im : List ℤ) (b n r k : ℕ) (x d y : Complex) → 64 * b + 75 ≤ points m → n < 64 → r < 3 → k ≡ 15 + 192 * b + 3 * n + r → AreCentred g m h all
    → ((i : ℕ) → i < 75 → pair_at re im i ≡ gain_of all (64 * b + i))
    → x ≡ pair (weighed (frequency_row g (15 + r)) re n) (weighed (frequency_row g (15 + r)) im n)
    → d ≡ turned_by (63 * (k * slope g)) → y ≡ near 14 (times x d) → y ≡ carrier_gain g m h k
carrier_is g m h all re im b n r k x d y few ln lr ek are same ex ed ey =
    let place : first_point m k ≡ 64 * b + n = omega (arith, ek, few, ln, lr) in
    let at : 15 + r ≡ k - 3 * first_point m k = omega (arith, ek, place) in
    let within : first_point m k + 12 ≤ points m = omega (arith, place, few, ln) in
    let each : (i : ℕ) → i < 12 → pair_at re im (n + i) ≡ gain_of all (first_point m k + i) = λ i less.
    same (n + i) (omega (arith, less, ln)) ∙ ap (gain_of all) (omega (arith, place)) in
    let sum = sum_of (λ (i : ℕ). scaled (get_or (frequency_row g (15 + r)) i (pos 0)) (pair_at re im (n + i))) (numbers 12) in
    let inner : x ≡ interpolated g m h k = ex ∙ pair_weighed (frequency_row g (15 + r)) re im n ∙ sum_by_points g m h all (λ (i : ℕ). pair_at re im (n + i)) (frequency_row g (15 + r)) k sum within are each (ap (frequency_row g) at) refl in
    gain_is g m h k (63 * (k * slope g)) x y inner refl (ey ∙ ap (λ (z : Complex). near 14 (times x z)) ed)

-- ---- sizes
abs_plus : (x y : ℤ) → nat_abs (x +ℤ y) ≤ nat_abs x + nat_abs y
abs_plus x y = omega (arith, ints)

pub sum_small : (i m : ℕ) (row : List ℤ) (sum x : ℤ) → nat_abs sum ≤ size_to i row * 2 ^ 22 → nat_abs x ≤ nat_abs (get_or row i (pos 0)) * 2 ^ 22 → m ≡ i + 1 → nat_abs (sum +ℤ x) ≤ size_to m row * 2 ^ 22
sum_small i m row sum x hs hx e = rw e (rw (size_more i row) (omega (arith, hs, hx, abs_plus sum x)))

-- the parts of a gain and of a direction fit their types
pub held_turn : (a b p q : ℤ) → nat_abs a ≤ 2 ^ 24 → nat_abs b ≤ 2 ^ 24 → nat_abs p ≤ 2 ^ 14 → nat_abs q ≤ 2 ^ 14 → near 14 (times (pair (to_z w32 (of_z w32 a)) (to_z w32 (of_z w32 b))) (pair (to_z w16 (of_z w16 p)) (to_z w16 (of_z w16 q)))) ≡ near 14 (times (pair a b) (pair p q))
held_turn a b p q ha hb hp hq =
    let a' = to_z w32 (of_z w32 a) in
    let b' = to_z w32 (of_z w32 b) in
    let p' = to_z w16 (of_z w16 p) in
    let q' = to_z w16 (of_z w16 q) in
    let ea : a' ≡ a = omega (arith, ints, ha) in
    let eb : b' ≡ b = omega (arith, ints, hb) in
    let ep : p' ≡ p = omega (arith, ints, hp) in
    let eq : q' ≡ q = omega (arith, ints, hq) in
    ap (λ (z : ℤ). near 14 (times (pair z b') (pair p' q'))) ea ∙ ap (λ (z : ℤ). near 14 (times (pair a z) (pair p' q'))) eb ∙ ap (λ (z : ℤ). near 14 (times (pair a b) (pair z q'))) ep ∙ ap (λ (z : ℤ). near 14 (times (pair a b) (pair p z))) eq
