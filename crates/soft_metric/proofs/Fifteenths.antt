-- Lane by lane: a fifteenth of a product.
use Rattle.std.proofs.Common.{◌≡◌, ℕ, zero, suc, ◌*◌, ◌/◌, ◌%◌, ◌^◌, ◌<◌, ◌≤◌, ◌==◌, true, not, List, [], ◌∷◌, length, map, replicate, refl, sym, ap, ap₂, ◌∙◌, arith, w16, Fits, mod-eq_of_lt}
use Rattle.std.specs.Prelude.{slice_index}
use Rattle.std.specs.Simd.Lanes.{zip2, Each1}
use Rattle.std.proofs.lemmas.Nat.{mul-le}
use Rattle.soft_metric.specs.Squares.{IsSmallPair}
use Rattle.soft_metric.specs.Weights.{weighted}

abbrev pub product : ℕ → ℕ → ℕ
product cost weight = cost * weight % 65536

abbrev pub high_halves : List ℕ → List ℕ → ℕ → List ℕ
high_halves cs ws n = zip2 (λ a b. a / 2 ^ b) (zip2 (λ a b. a * b % 4294967296) (map (λ a. a) (zip2 product cs ws)) (replicate n 34953)) (replicate n 16)

pub halves_fit : (cs ws : List ℕ) (n : ℕ) → Each1 (Fits w16) (high_halves cs ws n)
halves_fit [] ws n = tt
halves_fit (c ∷ cs) [] n = tt
halves_fit (c ∷ cs) (w ∷ ws) zero = tt
halves_fit (c ∷ cs) (w ∷ ws) (suc n) = (record { fits = omega arith }, halves_fit cs ws n)

fifteenth : (p : ℕ) → p < 65536 → p * 34953 % 4294967296 / 65536 / 8 ≡ p / 15
fifteenth p l = omega (arith, l)

below : (p : ℕ) → p % 65536 < 65536
below p = omega arith

pub fifteenths_are : (cs ws : List ℕ) (n : ℕ) → length cs ≡ n → length ws ≡ n
    → zip2 (λ a b. a / 2 ^ b) (map (λ a. a) (high_halves cs ws n)) (replicate n 3) ≡ zip2 (λ c w. c * w % 2 ^ 16 / 15) cs ws
fifteenths_are [] ws n e f = refl
fifteenths_are (c ∷ cs) [] n e f = refl
fifteenths_are (c ∷ cs) (w ∷ ws) zero e f = absurd (omega (arith, e))
fifteenths_are (c ∷ cs) (w ∷ ws) (suc n) e f = ap₂ (λ (z : ℕ) (zs : List ℕ). z ∷ zs) (fifteenth (product c w) (below (c * w))) (fifteenths_are cs ws n (omega (arith, e)) (omega (arith, f)))

-- ---- a pair of costs in a lane
zip_at : (f : ℕ → ℕ → ℕ) (xs ys : List ℕ) (k : ℕ) → k < length xs → k < length ys → slice_index (zip2 f xs ys) k ≡ f (slice_index xs k) (slice_index ys k)
zip_at f [] ys k l m = absurd (omega (arith, l))
zip_at f (x ∷ xs) [] k l m = absurd (omega (arith, m))
zip_at f (x ∷ xs) (y ∷ ys) zero l m = refl
zip_at f (x ∷ xs) (y ∷ ys) (suc k) l m = zip_at f xs ys k (omega (arith, l)) (omega (arith, m))

no_wrap : (c w : ℕ) → c ≤ 4095 → w ≤ 15 → c * w % 65536 / 15 ≡ c * w / 15
no_wrap c w small within =
    let most : c * w ≤ 4095 * 15 = mul-le c w 4095 15 small within in
    ap (λ (z : ℕ). z / 15) (mod-eq_of_lt (omega (arith, most)))

abbrev pub two : ℕ → ℕ → ℕ × ℕ
two z o = (z, o)

-- the costs and the weights of a lane
pub weighed_at : (zs os ws vs us : List ℕ) (k : ℕ) → length zs ≡ 16 → length os ≡ 16 → length ws ≡ 16 → k < 16 → IsSmallPair (two (slice_index zs k) (slice_index os k)) → slice_index ws k ≤ 15
    → vs ≡ zip2 (λ c w. c * w % 2 ^ 16 / 15) zs ws → us ≡ zip2 (λ c w. c * w % 2 ^ 16 / 15) os ws → two (slice_index vs k) (slice_index us k) ≡ weighted (two (slice_index zs k) (slice_index os k)) (slice_index ws k)
weighed_at zs os ws vs us k ez eo ew l small within ev eu =
    let z = ap (λ q. slice_index q k) ev ∙ zip_at (λ c w. c * w % 2 ^ 16 / 15) zs ws k (omega (arith, l, ez)) (omega (arith, l, ew)) ∙ no_wrap _ _ small.0 within in
    let o = ap (λ q. slice_index q k) eu ∙ zip_at (λ c w. c * w % 2 ^ 16 / 15) os ws k (omega (arith, l, eo)) (omega (arith, l, ew)) ∙ no_wrap _ _ small.1 within in
    ap₂ two z o

-- full weights change nothing
whole_one : (c w : ℕ) → c ≤ 4095 → w ≡ 15 → c ≡ c * w % 2 ^ 16 / 15
whole_one c w small full = let e : c ≡ c * 15 % 65536 / 15 = omega (arith, small) in e ∙ ap (λ (z : ℕ). c * z % 65536 / 15) (sym full)

pub whole_are : (cs ws : List ℕ) (n : ℕ) → length cs ≡ n → length ws ≡ n → ((k : ℕ) → k < n → slice_index cs k ≤ 4095) → ((k : ℕ) → k < n → slice_index ws k ≡ 15)
    → cs ≡ zip2 (λ c w. c * w % 2 ^ 16 / 15) cs ws
whole_are [] ws n e f small full = refl
whole_are (c ∷ cs) [] n e f small full = absurd (omega (arith, e, f))
whole_are (c ∷ cs) (w ∷ ws) zero e f small full = absurd (omega (arith, e))
whole_are (c ∷ cs) (w ∷ ws) (suc n) e f small full =
    ap₂ (λ (z : ℕ) (zs : List ℕ). z ∷ zs) (whole_one c w (small 0 (omega arith)) (full 0 (omega arith)))
    (whole_are cs ws n (omega (arith, e)) (omega (arith, f)) (λ k l. small (suc k) (omega (arith, l))) (λ k l. full (suc k) (omega (arith, l))))

-- a constant that is not 0 is true
pub is_set : (b : ℕ) → (b ≡ 0 → ⊥) → not (b == 0) ≡ true
is_set zero other = absurd (other refl)
is_set (suc b) other = grind arith
