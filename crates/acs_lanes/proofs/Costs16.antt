-- The costs of the steps in lanes.
use Rattle.std.proofs.Common.{◌≡◌, ℕ, zero, suc, ◌+◌, ◌*◌, ◌/◌, ◌%◌, ◌^◌, ◌<◌, ◌≤◌, Bool, true, false, List, [], ◌∷◌, ◌++◌, map, length, get_or, replicate, refl, sym, ap, ap₂, ◌∙◌, subst, arith, eqb}
use Rattle.std.specs.Simd.Lanes.{zip2}
use Rattle.code_paths.specs.declared.costs.CostPair.{CostPair}
use Rattle.code_paths.specs.Paths.{parity_x, parity_y}
use Rattle.code_paths.proofs.Registers.{all_below}
use Rattle.acs_lanes.specs.Lanes.{AreSteps, four}
use Rattle.acs_lanes.specs.Lanes16.{AreLaidCosts, repeated, way, word_of}
use Rattle.acs_lanes.proofs.LaneLaws.{at_map, bits_at, code_of, four_at, four_small}
use Rattle.acs_lanes.proofs.Laid.{same_below, way_small}
use Rattle.acs_lanes.proofs.WordParts.{four_by, lanes_from, part_is, parts_repeated, word_fits}

-- ---- the four costs in all lanes

module _ (pair : CostPair) where
  x0_fits : pair.x0 < 65536
  x0_fits = omega (arith, pair.small.x0_small)

  x1_fits : pair.x1 < 65536
  x1_fits = omega (arith, pair.small.x1_small)

  y0_fits : pair.y0 < 65536
  y0_fits = omega (arith, pair.small.y0_small)

  y1_fits : pair.y1 < 65536
  y1_fits = omega (arith, pair.small.y1_small)

  pub pair_fits : word_of pair < 18446744073709551616
  pair_fits = word_fits pair.x0 pair.x1 pair.y0 pair.y1 x0_fits x1_fits y0_fits y1_fits

  pub pair_part : (i : ℕ) → i < 4 → word_of pair / 256 ^ (2 * i) % 256 + 256 * (word_of pair / 256 ^ (2 * i + 1) % 256) ≡ get_or (four_by pair.x0 pair.x1 pair.y0 pair.y1) i 0
  pair_part = part_is pair.x0 pair.x1 pair.y0 pair.y1 x0_fits x1_fits y0_fits y1_fits

  pub repeated_is : lanes_from (replicate 4 (word_of pair)) ≡ repeated pair
  repeated_is = parts_repeated pair.x0 pair.x1 pair.y0 pair.y1 x0_fits x1_fits y0_fits y1_fits

-- ---- the costs by their codes 2X + Y

abbrev zeros : List ℕ
zeros = 0 ∷ 3 ∷ 0 ∷ 3 ∷ 1 ∷ 2 ∷ 1 ∷ 2 ∷ 2 ∷ 1 ∷ 2 ∷ 1 ∷ 3 ∷ 0 ∷ 3 ∷ 0 ∷ []

abbrev ones : List ℕ
ones = 3 ∷ 0 ∷ 3 ∷ 0 ∷ 2 ∷ 1 ∷ 2 ∷ 1 ∷ 1 ∷ 2 ∷ 1 ∷ 2 ∷ 0 ∷ 3 ∷ 0 ∷ 3 ∷ []

abbrev pub lanes_of : List ℕ → List ℕ → List ℕ
lanes_of costs codes = map (λ j. get_or costs j 0) codes

abbrev pub sums_of : CostPair → List ℕ
sums_of pair = ((pair.x0 + pair.y0) % 65536) ∷ ((pair.x0 + pair.y1) % 65536) ∷ ((pair.x1 + pair.y0) % 65536) ∷ ((pair.x1 + pair.y1) % 65536) ∷ []

pub sums_are : (pair : CostPair) → sums_of pair ≡ four pair
sums_are pair =
    let a : (pair.x0 + pair.y0) % 65536 ≡ pair.x0 + pair.y0 = omega (arith, pair.small.x0_small, pair.small.y0_small) in
    let b : (pair.x0 + pair.y1) % 65536 ≡ pair.x0 + pair.y1 = omega (arith, pair.small.x0_small, pair.small.y1_small) in
    let c : (pair.x1 + pair.y0) % 65536 ≡ pair.x1 + pair.y0 = omega (arith, pair.small.x1_small, pair.small.y0_small) in
    let d : (pair.x1 + pair.y1) % 65536 ≡ pair.x1 + pair.y1 = omega (arith, pair.small.x1_small, pair.small.y1_small) in
    ap₂ (λ x xs. x ∷ xs) a (ap₂ (λ x xs. x ∷ xs) b (ap₂ (λ x xs. x ∷ xs) c (ap (λ x. x ∷ []) d)))

small_at : (pair : CostPair) (j : ℕ) → get_or (four pair) j 0 ≤ 8190
small_at pair zero = four_small pair false false
small_at pair (suc zero) = four_small pair false true
small_at pair (suc (suc zero)) = four_small pair true false
small_at pair (suc (suc (suc zero))) = four_small pair true true
small_at pair (suc (suc (suc (suc j)))) = omega arith

pub codes_small : (pair : CostPair) (codes : List ℕ) → length codes ≡ 16 → (k : ℕ) → k < 16 → get_or (lanes_of (four pair) codes) k 0 ≤ 8190
codes_small pair codes e k l = omega (arith, at_map (λ j. get_or (four pair) j 0) codes k (omega (arith, e)), small_at pair (get_or codes k 0))

abbrev pub code_at : ℕ → Bool → ℕ → ℕ
code_at parity input k = code_of (parity_x (bits_at parity input k)) (parity_y (bits_at parity input k))

steps_at : (pair : CostPair) (codes : List ℕ) (parity : ℕ) (input : Bool) → length codes ≡ 32 → all_below (λ k. eqb (get_or codes (way k) 0) (code_at parity input k)) 32 ≡ true
    → (k : ℕ) → k < 32 → AreSteps pair parity input k (get_or (lanes_of (four pair) codes) (way k) 0)
steps_at pair codes parity input n t k l =
    let f =
    at_map (λ j. get_or (four pair) j 0) codes (way k) (omega (arith, n, way_small k l)) ∙ ap (λ j. get_or (four pair) j 0) (same_below 32 (λ k. get_or codes (way k) 0) (code_at parity input) t k l)
    ∙ four_at pair (parity_x (bits_at parity input k)) (parity_y (bits_at parity input k)) in
    record { is = f; small = omega (arith, f, four_small pair (parity_x (bits_at parity input k)) (parity_y (bits_at parity input k))) }

laid_by_codes : (pair : CostPair) → AreLaidCosts pair (lanes_of (four pair) zeros) (lanes_of (four pair) ones)
laid_by_codes pair = record {
  zero_len = refl;
  one_len = refl;
  zero_small = codes_small pair zeros refl;
  one_small = codes_small pair ones refl;
  even_zero = steps_at pair (zeros ++ ones) 0 false refl refl;
  odd_one = steps_at pair (zeros ++ ones) 1 true refl refl;
  even_one = steps_at pair (ones ++ zeros) 0 true refl refl;
  odd_zero = steps_at pair (ones ++ zeros) 1 false refl refl;
}

laid_costs : (pair : CostPair) → AreLaidCosts pair (lanes_of (sums_of pair) zeros) (lanes_of (sums_of pair) ones)
laid_costs pair = subst (λ z. AreLaidCosts pair (lanes_of z zeros) (lanes_of z ones)) (sym (sums_are pair)) (laid_by_codes pair)

abbrev x_lanes : List ℕ
x_lanes = 0 ∷ 1 ∷ 0 ∷ 1 ∷ 0 ∷ 1 ∷ 0 ∷ 1 ∷ 9 ∷ 8 ∷ 9 ∷ 8 ∷ 9 ∷ 8 ∷ 9 ∷ 8 ∷ []

abbrev y_lanes : List ℕ
y_lanes = 2 ∷ 3 ∷ 2 ∷ 3 ∷ 3 ∷ 2 ∷ 3 ∷ 2 ∷ 10 ∷ 11 ∷ 10 ∷ 11 ∷ 11 ∷ 10 ∷ 11 ∷ 10 ∷ []

abbrev neighbours : List ℕ
neighbours = 1 ∷ 0 ∷ 3 ∷ 2 ∷ 5 ∷ 4 ∷ 7 ∷ 6 ∷ 9 ∷ 8 ∷ 11 ∷ 10 ∷ 13 ∷ 12 ∷ 15 ∷ 14 ∷ []

abbrev pub added : List ℕ → List ℕ
added costs = zip2 (λ a b. (a + b) % 65536) (lanes_of (costs ++ costs) x_lanes) (lanes_of (costs ++ costs) y_lanes)

pub laid_from : (pair : CostPair) (costs : List ℕ) → costs ≡ repeated pair → AreLaidCosts pair (added costs) (lanes_of (added costs ++ added costs) neighbours)
laid_from pair costs e = subst (λ z. AreLaidCosts pair (added z) (lanes_of (added z ++ added z) neighbours)) (sym e) (laid_costs pair)
