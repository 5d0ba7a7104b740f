-- Lane by lane: distances, the lesser of two, scaled squares.
use Rattle.std.proofs.Common.{◌≡◌, ℕ, zero, suc, ◌+◌, ◌-◌, ◌*◌, ◌/◌, ◌%◌, ◌^◌, ◌<◌, ◌≤◌, min, Bool, true, false, cond, List, [], ◌∷◌, length, map, replicate, ◌⊎◌, inl, inr, refl, sym, ap, ap₂, ◌∙◌, arith, ltb, w16, Fits, pow-suc, mod-eq_of_lt}
use Rattle.std.proofs.Math.Nat.{mul-le-mul_right, pow-le-pow_left, pow-zero}
use Rattle.std.specs.Int.{abs_diff}
use Rattle.std.specs.Simd.Lanes.{zip2, sel_l, top, Each1}
use Rattle.std.proofs.lemmas.Bool.{cases_lt, cases_Bool, ltb-true, ltb-false}
use Rattle.std.proofs.lemmas.Simd.{zip2_of_maps, map-map}
use Rattle.std.specs.Prelude.{slice_index}
use Rattle.soft_metric.proofs.Wrapping.{square_wraps}
use Rattle.soft_metric.specs.Squares.{scaled, lane_magnitude, near_two, near_four, far_one, lane_zero, lane_one}

-- which lanes of one vector are less than those of another
abbrev pub less : List ℕ → List ℕ → List Bool
less xs ys = map (top 15) (zip2 (λ a b. cond (ltb a b) 65535 0) xs ys)

abbrev pub differences : List ℕ → List ℕ → List ℕ
differences xs ys = zip2 (λ a b. (a + (65536 - b)) % 65536) xs ys

lesser_one : (a b : ℕ) → cond (top 15 (cond (ltb a b) 65535 0)) a b ≡ min a b
lesser_one a b = go (cases_Bool (ltb a b))
  where
    go : (ltb a b ≡ true) ⊎ (ltb a b ≡ false) → cond (top 15 (cond (ltb a b) 65535 0)) a b ≡ min a b
    go (inl h) = ap (λ z. cond (top 15 (cond z 65535 0)) a b) h ∙ omega (arith, ltb-true a b h)
    go (inr h) = ap (λ z. cond (top 15 (cond z 65535 0)) a b) h ∙ omega (arith, ltb-false a b h)

pub lesser_is : (xs ys : List ℕ) → sel_l (less xs ys) xs ys ≡ zip2 min xs ys
lesser_is [] ys = refl
lesser_is (a ∷ xs) [] = refl
lesser_is (a ∷ xs) (b ∷ ys) = ap₂ (λ (z : ℕ) (zs : List ℕ). z ∷ zs) (lesser_one a b) (lesser_is xs ys)

-- ---- scaled squares: the upper half of a square, and a quarter of it
square_fits : (g : ℕ) → g < 65536 → g * g < 4294967296
square_fits g l = let most : g * g ≤ 65535 * g = mul-le-mul_right g (omega (arith, l)) in omega (arith, most, l)

twice : (g : ℕ) → g * g ≡ g ^ 2
twice g = let none : 1 * g ≡ g = omega arith in sym (pow-suc g 1 ∙ ap (λ z. z * g) (pow-suc g 0 ∙ ap (λ z. z * g) (pow-zero g) ∙ none))

scaled_one : (g : ℕ) → g < 65536 → min (g * g % 4294967296 / 65536 / 4) 4095 ≡ scaled (g ^ 2)
scaled_one g l =
    let low : g * g % 4294967296 ≡ g * g = mod-eq_of_lt (square_fits g l) in
    let same : min (g * g / 65536 / 4) 4095 ≡ min 4095 (g * g / 262144) = omega arith in
    ap (λ z. min (z / 65536 / 4) 4095) low ∙ same ∙ ap (λ z. min 4095 (z / 262144)) (twice g)

abbrev pub high_halves : List ℕ → ℕ → List ℕ
high_halves gs n = zip2 (λ a b. a / 2 ^ b) (zip2 (λ a b. a * b % 4294967296) (map (λ a. a) gs) (map (λ a. a) gs)) (replicate n 16)

pub halves_fit : (gs : List ℕ) (n : ℕ) → Each1 (Fits w16) (high_halves gs n)
halves_fit [] n = tt
halves_fit (g ∷ gs) zero = tt
halves_fit (g ∷ gs) (suc n) = (record { fits = omega arith }, halves_fit gs n)

pub scaled_are : (gs : List ℕ) (n : ℕ) → length gs ≡ n → Each1 (Fits w16) gs
    → zip2 min (zip2 (λ a b. a / 2 ^ b) (map (λ a. a) (high_halves gs n)) (replicate n 2)) (replicate n 4095) ≡ map (λ g. scaled (g ^ 2)) gs
scaled_are [] n e f = refl
scaled_are (g ∷ gs) zero e f = absurd (omega (arith, e))
scaled_are (g ∷ gs) (suc n) e f = ap₂ (λ (z : ℕ) (zs : List ℕ). z ∷ zs) (scaled_one g f.0.fits) (scaled_are gs n (omega (arith, e)) f.1)

-- ---- scaled squares of distances with their signs
abbrev pub signed_gaps : List ℕ → ℕ → ℕ → List ℕ
signed_gaps ms n y = zip2 (λ a b. (a + (4294967296 - b)) % 4294967296) (map (λ a. a) (zip2 (λ a b. (a + b) % 65536) (differences ms (replicate n y)) (replicate n 32768))) (replicate n 32768)

abbrev pub near_halves : List ℕ → ℕ → ℕ → List ℕ
near_halves ms n y = zip2 (λ a b. a / 2 ^ b) (zip2 (λ a b. a * b % 4294967296) (signed_gaps ms n y) (signed_gaps ms n y)) (replicate n 16)

pub near_halves_fit : (ms : List ℕ) (n y : ℕ) → Each1 (Fits w16) (near_halves ms n y)
near_halves_fit [] n y = tt
near_halves_fit (m ∷ ms) zero y = tt
near_halves_fit (m ∷ ms) (suc n) y = (record { fits = omega arith }, near_halves_fit ms n y)

abbrev pub costs_to : ℕ → List ℕ → List ℕ
costs_to y ms = map (λ m. scaled (abs_diff m y ^ 2)) ms

signed_one : (m y : ℕ) → m ≤ 32768 → 1 ≤ y → y ≤ 20000 → (((m + (65536 - y)) % 65536 + 32768) % 65536 + (4294967296 - 32768)) % 4294967296 ≡ (m + (4294967296 - y)) % 4294967296
signed_one m y a b d = omega (arith, a, b, d)

near_one : (m y : ℕ) → m ≤ 32768 → 1 ≤ y → y ≤ 20000
    → (((m + (65536 - y)) % 65536 + 32768) % 65536 + (4294967296 - 32768)) % 4294967296 * ((((m + (65536 - y)) % 65536 + 32768) % 65536 + (4294967296 - 32768)) % 4294967296) % 4294967296 / 65536 / 4 ≡ scaled (abs_diff m y ^ 2)
near_one m y a b d =
    let near : abs_diff m y ≤ 32767 = omega (arith, a, b, d) in
    let most : abs_diff m y ^ 2 ≤ 32767 ^ 2 = pow-le-pow_left near 2 in
    let same : abs_diff m y ^ 2 / 65536 / 4 ≡ min 4095 (abs_diff m y ^ 2 / 262144) = omega (arith, most) in
    ap (λ z. z * z % 4294967296 / 65536 / 4) (signed_one m y a b d) ∙ ap (λ z. z / 65536 / 4) (square_wraps m y a d) ∙ same

pub near_are : (ms : List ℕ) (n y : ℕ) → 1 ≤ y → y ≤ 20000 → length ms ≡ n → ((k : ℕ) → k < n → slice_index ms k ≤ 32768)
    → zip2 (λ a b. a / 2 ^ b) (map (λ a. a) (near_halves ms n y)) (replicate n 2) ≡ costs_to y ms
near_are [] n y a b e small = refl
near_are (m ∷ ms) zero y a b e small = absurd (omega (arith, e))
near_are (m ∷ ms) (suc n) y a b e small =
    ap₂ (λ (z : ℕ) (zs : List ℕ). z ∷ zs) (near_one m y (small 0 (omega arith)) a b) (near_are ms n y a b (omega (arith, e)) (λ k l. small (suc k) (omega (arith, l))))

-- ---- what the vectors of a step hold, by the values
pub magnitudes_are : (vs : List ℕ) (n : ℕ) → length vs ≡ n → zip2 min vs (differences (replicate n 0) vs) ≡ map lane_magnitude vs
magnitudes_are [] n e = refl
magnitudes_are (v ∷ vs) zero e = absurd (omega (arith, e))
magnitudes_are (v ∷ vs) (suc n) e = ap₂ (λ (z : ℕ) (zs : List ℕ). z ∷ zs) one (magnitudes_are vs n (omega (arith, e)))
  where
    one : min v ((0 + (65536 - v)) % 65536) ≡ lane_magnitude v
    one = omega arith

pub magnitude_small : (v : ℕ) → lane_magnitude v ≤ 32768
magnitude_small v = omega arith

pub fars_are : (vs : List ℕ) (n y : ℕ) → y ≤ 20000 → length vs ≡ n → zip2 (λ a b. (a + b) % 65536) (map lane_magnitude vs) (replicate n y) ≡ map (λ v. lane_magnitude v + y) vs
fars_are [] n y l e = refl
fars_are (v ∷ vs) zero y l e = absurd (omega (arith, e))
fars_are (v ∷ vs) (suc n) y l e = ap₂ (λ (z : ℕ) (zs : List ℕ). z ∷ zs) (mod-eq_of_lt (omega (arith, l, magnitude_small v))) (fars_are vs n y l (omega (arith, e)))

pub signs_are : (vs : List ℕ) (n y : ℕ) (f g : ℕ → ℕ) → length vs ≡ n → sel_l (less vs (replicate n y)) (map f vs) (map g vs) ≡ map (λ v. cond (ltb v y) (f v) (g v)) vs
signs_are [] n y f g e = refl
signs_are (v ∷ vs) zero y f g e = absurd (omega (arith, e))
signs_are (v ∷ vs) (suc n) y f g e = ap₂ (λ (z : ℕ) (zs : List ℕ). z ∷ zs) (one (ltb v y)) (signs_are vs n y f g (omega (arith, e)))
  where
    one : (b : Bool) → cond (top 15 (cond b 65535 0)) (f v) (g v) ≡ cond b (f v) (g v)
    one true = refl
    one false = refl

pub lesser_map : (vs ms ns r : List ℕ) (f g : ℕ → ℕ) → ms ≡ map f vs → ns ≡ map g vs → r ≡ zip2 min ms ns → r ≡ map (λ v. min (f v) (g v)) vs
lesser_map vs ms ns r f g em en er = er ∙ zip2_of_maps min f g vs em en

pub scaled_map : (vs ms r : List ℕ) (f : ℕ → ℕ) → ms ≡ map f vs → r ≡ map (λ g. scaled (g ^ 2)) ms → r ≡ map (λ v. scaled (f v ^ 2)) vs
scaled_map vs ms r f em er = er ∙ ap (map (λ g. scaled (g ^ 2))) em ∙ map-map (λ g. scaled (g ^ 2)) f vs

-- ---- the costs of sixteen values
abbrev pub squares : List ℕ → List ℕ
squares gs = map (λ g. scaled (g ^ 2)) gs

lesser_cost : (x y : ℕ) → x ≤ y → min (min 4095 (x / 262144)) (min 4095 (y / 262144)) ≡ min 4095 (x / 262144)
lesser_cost x y l = omega (arith, l)

greater_cost : (x y : ℕ) → y ≤ x → min (min 4095 (x / 262144)) (min 4095 (y / 262144)) ≡ min 4095 (y / 262144)
greater_cost x y l = omega (arith, l)

-- the lesser cost is the cost of the lesser distance
lesser_costs : (a b : ℕ) → min (scaled (a ^ 2)) (scaled (b ^ 2)) ≡ scaled (min a b ^ 2)
lesser_costs a b = go (cases_lt a b)
  where
    go : (a < b) ⊎ (b ≤ a) → min (scaled (a ^ 2)) (scaled (b ^ 2)) ≡ scaled (min a b ^ 2)
    go (inl l) = let e : a ≡ min a b = omega (arith, l) in lesser_cost (a ^ 2) (b ^ 2) (pow-le-pow_left (omega (arith, l)) 2) ∙ ap (λ z. scaled (z ^ 2)) e
    go (inr l) = let e : b ≡ min a b = omega (arith, l) in greater_cost (a ^ 2) (b ^ 2) (pow-le-pow_left l 2) ∙ ap (λ z. scaled (z ^ 2)) e

module _ (vs ms gs hs is js ls : List ℕ) (n : length vs ≡ 16) (m : ms ≡ map lane_magnitude vs)
    (g : gs ≡ costs_to (slice_index ls 0) ms) (h : hs ≡ costs_to (slice_index ls 1) ms)
    (i : is ≡ costs_to (slice_index ls 2) ms) (j : js ≡ costs_to (slice_index ls 3) ms) where
  abbrev near_to : ℕ → ℕ → ℕ
  near_to k v = abs_diff (lane_magnitude v) (slice_index ls k)

  abbrev cost_to : ℕ → ℕ → ℕ
  cost_to k v = scaled (near_to k v ^ 2)

  one : (k : ℕ) (xs : List ℕ) → xs ≡ costs_to (slice_index ls k) ms → xs ≡ map (cost_to k) vs
  one k xs e = e ∙ ap (costs_to (slice_index ls k)) m ∙ map-map (λ u. scaled (abs_diff u (slice_index ls k) ^ 2)) lane_magnitude vs

  two : (a b : ℕ) (xs ys rs : List ℕ) → xs ≡ costs_to (slice_index ls a) ms → ys ≡ costs_to (slice_index ls b) ms → rs ≡ zip2 min xs ys → rs ≡ map (λ v. scaled (near_two ls v a b ^ 2)) vs
  two a b xs ys rs ex ey e = lesser_map vs xs ys rs (cost_to a) (cost_to b) (one a xs ex) (one b ys ey) e ∙ (λ t. map (λ v. lesser_costs (near_to a v) (near_to b v) t) vs)

  module _ (axis : ℕ) (os ps rs : List ℕ) where
    pub outer_zero : axis ≡ 1 → rs ≡ zip2 min gs hs → rs ≡ map (lane_zero ls axis) vs
    outer_zero a e = two 0 1 gs hs rs g h e ∙ ap (λ z. map (lane_zero ls z) vs) (sym a)

    pub outer_one : axis ≡ 1 → rs ≡ zip2 min is js → rs ≡ map (lane_one ls axis) vs
    outer_one a e = two 2 3 is js rs i j e ∙ ap (λ z. map (lane_one ls z) vs) (sym a)

    pub inner_zero : axis ≡ 2 → rs ≡ zip2 min gs js → rs ≡ map (lane_zero ls axis) vs
    inner_zero a e = two 0 3 gs js rs g j e ∙ ap (λ z. map (lane_zero ls z) vs) (sym a)

    pub inner_one : axis ≡ 2 → rs ≡ zip2 min hs is → rs ≡ map (lane_one ls axis) vs
    inner_one a e = two 1 2 hs is rs h i e ∙ ap (λ z. map (lane_one ls z) vs) (sym a)

    near_is : os ≡ zip2 min gs hs → ps ≡ zip2 min is js → rs ≡ zip2 min os ps → rs ≡ map (λ v. scaled (near_four ls v ^ 2)) vs
    near_is e f k =
        lesser_map vs os ps rs (λ v. scaled (near_two ls v 0 1 ^ 2)) (λ v. scaled (near_two ls v 2 3 ^ 2)) (two 0 1 gs hs os g h e) (two 2 3 is js ps i j f) k
        ∙ (λ t. map (λ v. lesser_costs (near_two ls v 0 1) (near_two ls v 2 3) t) vs)

    far_is : (fs : List ℕ) → slice_index ls 3 ≤ 20000 → fs ≡ squares (zip2 (λ a b. (a + b) % 65536) ms (replicate 16 (slice_index ls 3))) → fs ≡ map (λ v. scaled (far_one ls v ^ 2)) vs
    far_is fs l e = scaled_map vs _ _ (far_one ls) (ap (λ z. zip2 (λ a b. (a + b) % 65536) z (replicate 16 (slice_index ls 3))) m ∙ fars_are vs 16 (slice_index ls 3) l n) e

    pub sign_zero : (fs : List ℕ) → axis ≡ 0 → slice_index ls 3 ≤ 20000 → os ≡ zip2 min gs hs → ps ≡ zip2 min is js → rs ≡ zip2 min os ps
        → fs ≡ squares (zip2 (λ a b. (a + b) % 65536) ms (replicate 16 (slice_index ls 3))) → sel_l (less vs (replicate 16 32768)) rs fs ≡ map (lane_zero ls axis) vs
    sign_zero fs a l e f k u =
        ap₂ (λ (x y : List ℕ). sel_l (less vs (replicate 16 32768)) x y) (near_is e f k) (far_is fs l u)
        ∙ signs_are vs 16 32768 (λ v. scaled (near_four ls v ^ 2)) (λ v. scaled (far_one ls v ^ 2)) n ∙ ap (λ z. map (lane_zero ls z) vs) (sym a)

    pub sign_one : (fs : List ℕ) → axis ≡ 0 → slice_index ls 3 ≤ 20000 → os ≡ zip2 min gs hs → ps ≡ zip2 min is js → rs ≡ zip2 min os ps
        → fs ≡ squares (zip2 (λ a b. (a + b) % 65536) ms (replicate 16 (slice_index ls 3))) → sel_l (less vs (replicate 16 32768)) fs rs ≡ map (lane_one ls axis) vs
    sign_one fs a l e f k u =
        ap₂ (λ (x y : List ℕ). sel_l (less vs (replicate 16 32768)) x y) (far_is fs l u) (near_is e f k)
        ∙ signs_are vs 16 32768 (λ v. scaled (far_one ls v ^ 2)) (λ v. scaled (near_four ls v ^ 2)) n ∙ ap (λ z. map (lane_one ls z) vs) (sym a)
