-- The rows of the interpolation in frequency on a channel without delay, by tables.
use Rattle.std.proofs.Common.{◌≡◌, ℕ, zero, suc, ◌+◌, ◌-◌, ◌*◌, ◌%◌, ◌<◌, ◌≤◌, get_or, ap, ap₂, refl, sym, subst, arith, inl, inr, Bool, true, ltb}
use Rattle.std.specs.Prelude.{pos, nat_abs, ◌-ℤ◌, ◌&&◌, sum_by}
use Rattle.std.proofs.lemmas.Bool.{and_parts, ltb-true, cases_lt}
use Rattle.spec_words.specs.Words.{numbers}
use Rattle.mode_set.specs.StreamTable.{carriers}
use Rattle.mode_set.specs.declared.modes.Guard.{Guard}
use Rattle.mode_set.specs.declared.modes.Guard.TheVariants.{G1of32, G1of16, G1of8, G1of4}
use Rattle.mode_set.specs.declared.modes.Mode.{Mode}
use Rattle.mode_set.specs.declared.modes.Mode.TheVariants.{M2k, M8k}
use Rattle.tracking.specs.Coefficients.{frequency_rows}
use Rattle.tracking.specs.InFrequency.{slope, frequency_row, first_point}
use Rattle.tracking.proofs.Same.{sum_same}
use Rattle.track_arithmetic.specs.Numbers.{times, scaled, sum_of, cosine, turned_by}
use Rattle.track_arithmetic.specs.declared.complex.Complex.{Complex}
use Rattle.law_tracking.proofs.Forward.{complex}

-- a test passes at all numbers below n
abbrev below : ℕ → (ℕ → Bool) → Bool
below zero f = true
below (suc n) f = f n && below n f

below_at : (n : ℕ) (f : ℕ → Bool) (k : ℕ) → k < n → below n f ≡ true → f k ≡ true
below_at zero f k h e = absurd (omega (arith, h))
below_at (suc n) f k h e =
    let parts = and_parts (f n) (below n f) e in
    elim (cases_lt k n) [
      | inl lt ↦ below_at n f k lt parts.1
      | inr ge ↦ let same : n ≡ k = omega (arith, h, ge) in subst (λ (z : ℕ). f z ≡ true) same parts.0
    ]

-- ---- directions
pub turned_same : (m n : ℕ) → m % 64 ≡ n % 64 → turned_by m ≡ turned_by n
unfolding turned_by
turned_same m n e = let f : (m + 48) % 64 ≡ (n + 48) % 64 = omega (arith, e) in ap₂ (λ (x y : ℕ). complex (cosine x) (cosine y)) e f

abbrev short : ℕ → Bool
short i = ltb (nat_abs (turned_by i).re + nat_abs (turned_by i).im) 23171

all_short : below 64 short ≡ true
unfolding turned_by
all_short = refl

pub turned_small : (i : ℕ) → nat_abs (turned_by i).re + nat_abs (turned_by i).im ≤ 23170
turned_small i =
    let n = i % 64 in
    let lt : n < 64 = omega arith in
    let e : turned_by n ≡ turned_by i = turned_same n i (omega arith) in
    let h = ltb-true _ _ (below_at 64 short n lt all_short) in
    subst (λ (z : Complex). nat_abs z.re + nat_abs z.im ≤ 23170) e (omega (arith, h))

-- ---- the sizes of rows
abbrev pub row_size : Guard → ℕ → ℕ
row_size g t = sum_by (λ i. nat_abs (get_or (frequency_row g t) i (pos 0))) (numbers 12)

abbrev light : Guard → ℕ → Bool
light g t = ltb (row_size g t) 58155

all_light : (g : Guard) → below 34 (light g) ≡ true
unfolding frequency_row frequency_rows numbers
all_light G1of32 = refl
all_light G1of16 = refl
all_light G1of8 = refl
all_light G1of4 = refl

pub rows_light : (g : Guard) (t : ℕ) → t < 34 → row_size g t ≤ 58154
rows_light g t h = let e = ltb-true _ _ (below_at 34 (light g) t h (all_light g)) in omega (arith, e)

-- ---- a channel without delay: twelve points by row t, the first one at point o, and the turn back
abbrev pub row_sum : Guard → ℕ → ℕ → Complex
row_sum g t o = sum_of (λ i. scaled (get_or (frequency_row g t) i (pos 0)) (turned_by (3 * (o + i) * slope g))) (numbers 12)

abbrev pub seen : Guard → ℕ → ℕ → Complex
seen g t o = times (row_sum g t o) (turned_by (63 * ((3 * o + t) * slope g)))

-- the distance of that from 2^42
abbrev pub off : Complex → ℕ
off z = nat_abs (z.re -ℤ pos 4398046511104) + nat_abs z.im

abbrev close : Guard → ℕ → ℕ → Bool
close g t o = ltb (off (seen g t o)) 951053431

abbrev middle : Guard → Bool
middle g = below 64 (λ o. close g 15 o && (close g 16 o && close g 17 o))

abbrev lower : Guard → Bool
lower g = below 15 (λ t. close g t 0)

abbrev upper : Guard → ℕ → Bool
upper g o = below 16 (λ n. close g (n + 18) o)

middles : (g : Guard) → middle g ≡ true
unfolding turned_by frequency_row frequency_rows numbers sum_of
middles G1of32 = refl
middles G1of16 = refl
middles G1of8 = refl
middles G1of4 = refl

lowers : (g : Guard) → lower g ≡ true
unfolding turned_by frequency_row frequency_rows numbers sum_of
lowers G1of32 = refl
lowers G1of16 = refl
lowers G1of8 = refl
lowers G1of4 = refl

uppers_2k : (g : Guard) → upper g 557 ≡ true
unfolding turned_by frequency_row frequency_rows numbers sum_of
uppers_2k G1of32 = refl
uppers_2k G1of16 = refl
uppers_2k G1of8 = refl
uppers_2k G1of4 = refl

uppers_8k : (g : Guard) → upper g 2261 ≡ true
unfolding turned_by frequency_row frequency_rows numbers sum_of
uppers_8k G1of32 = refl
uppers_8k G1of16 = refl
uppers_8k G1of8 = refl
uppers_8k G1of4 = refl

-- points 64 apart have the same turn
phase : (g : Guard) (o i : ℕ) → 3 * (o + i) * slope g % 64 ≡ 3 * (o % 64 + i) * slope g % 64
phase G1of32 o i = omega arith
phase G1of16 o i = omega arith
phase G1of8 o i = omega arith
phase G1of4 o i = omega arith

phase_back : (g : Guard) (o t : ℕ) → 63 * ((3 * o + t) * slope g) % 64 ≡ 63 * ((3 * (o % 64) + t) * slope g) % 64
phase_back G1of32 o t = omega arith
phase_back G1of16 o t = omega arith
phase_back G1of8 o t = omega arith
phase_back G1of4 o t = omega arith

seen_again : (g : Guard) (t o : ℕ) → seen g t o ≡ seen g t (o % 64)
seen_again g t o =
    let row = frequency_row g t in
    let each : (i : ℕ) → scaled (get_or row i (pos 0)) (turned_by (3 * (o + i) * slope g)) ≡ scaled (get_or row i (pos 0)) (turned_by (3 * (o % 64 + i) * slope g)) = λ i.
    ap (scaled (get_or row i (pos 0))) (turned_same (3 * (o + i) * slope g) (3 * (o % 64 + i) * slope g) (phase g o i)) in
    ap₂ times
    (sum_same (numbers 12) (λ (i : ℕ). scaled (get_or row i (pos 0)) (turned_by (3 * (o + i) * slope g))) (λ (i : ℕ). scaled (get_or row i (pos 0)) (turned_by (3 * (o % 64 + i) * slope g))) (λ i l. each (get_or (numbers 12) i 0)))
    (turned_same (63 * ((3 * o + t) * slope g)) (63 * ((3 * (o % 64) + t) * slope g)) (phase_back g o t))

close_middle : (g : Guard) (t o : ℕ) → 15 ≤ t → t < 18 → o < 64 → close g t o ≡ true
close_middle g t o low high h =
    let all = below_at 64 (λ o. close g 15 o && (close g 16 o && close g 17 o)) o h (middles g) in
    let one = and_parts (close g 15 o) (close g 16 o && close g 17 o) all in
    let two = and_parts (close g 16 o) (close g 17 o) one.1 in
    elim (cases_lt t 16) [
      | inl lt ↦ let e : 15 ≡ t = omega (arith, low, lt) in subst (λ (z : ℕ). close g z o ≡ true) e one.0
      | inr ge ↦ elim (cases_lt t 17) [
        | inl lt ↦ let e : 16 ≡ t = omega (arith, ge, lt) in subst (λ (z : ℕ). close g z o ≡ true) e two.0
        | inr more ↦ let e : 17 ≡ t = omega (arith, more, high) in subst (λ (z : ℕ). close g z o ≡ true) e two.1
      ]
    ]

pub record IsCarrier (m : Mode) (k : ℕ) : Type 0 where
  pub row : k - 3 * first_point m k < 34
  pub is : k ≡ 3 * first_point m k + (k - 3 * first_point m k)

pub carrier_is : (m : Mode) (k : ℕ) → k < carriers m → IsCarrier m k
carrier_is M2k k h = record { row = omega (arith, h); is = omega (arith, h) }
carrier_is M8k k h = record { row = omega (arith, h); is = omega (arith, h) }

at_end : (g : Guard) (m : Mode) (k : ℕ) → k < carriers m → 18 ≤ k - 3 * first_point m k → close g (k - 3 * first_point m k) (first_point m k) ≡ true
at_end g M2k k h far =
    let t = k - 3 * first_point M2k k in
    let o : 557 ≡ first_point M2k k = omega (arith, h, far) in
    let one = below_at 16 (λ n. close g (n + 18) 557) (t - 18) (omega (arith, h, far)) (uppers_2k g) in
    let e : t - 18 + 18 ≡ t = omega (arith, far) in
    subst (λ (z : ℕ). close g t z ≡ true) o (subst (λ (z : ℕ). close g z 557 ≡ true) e one)
at_end g M8k k h far =
    let t = k - 3 * first_point M8k k in
    let o : 2261 ≡ first_point M8k k = omega (arith, h, far) in
    let one = below_at 16 (λ n. close g (n + 18) 2261) (t - 18) (omega (arith, h, far)) (uppers_8k g) in
    let e : t - 18 + 18 ≡ t = omega (arith, far) in
    subst (λ (z : ℕ). close g t z ≡ true) o (subst (λ (z : ℕ). close g z 2261 ≡ true) e one)

all_close : (g : Guard) (m : Mode) (k : ℕ) → k < carriers m → off (seen g (k - 3 * first_point m k) (first_point m k)) ≤ 951053430
all_close g m k h =
    let o = first_point m k in
    let t = k - 3 * o in
    elim (cases_lt t 15) [
      | inl lt ↦
          let e : 0 ≡ o = omega (arith, lt) in
          let one = subst (λ (z : ℕ). close g t z ≡ true) e (below_at 15 (λ t. close g t 0) t lt (lowers g)) in
          let f = ltb-true _ _ one in omega (arith, f)
      | inr ge ↦ elim (cases_lt t 18) [
        | inl lt ↦
            let f = ltb-true _ _ (close_middle g t (o % 64) ge lt (omega arith)) in
            subst (λ (z : Complex). off z ≤ 951053430) (sym (seen_again g t o)) (omega (arith, f))
        | inr far ↦ let f = ltb-true _ _ (at_end g m k h far) in omega (arith, f)
      ]
    ]

-- the sum over the points of carrier k, turned back
pub seen_close : (g : Guard) (m : Mode) (k : ℕ) → k < carriers m → off (times (row_sum g (k - 3 * first_point m k) (first_point m k)) (turned_by (63 * (k * slope g)))) ≤ 951053430
seen_close g m k h =
    let o = first_point m k in
    let t = k - 3 * o in
    subst (λ (z : ℕ). off (times (row_sum g t o) (turned_by (63 * (z * slope g)))) ≤ 951053430) (sym (carrier_is m k h).is) (all_close g m k h)
