-- Costs in lanes of 32 bits, and as numbers of 16 bits.
use Rattle.std.proofs.Common.{◌≡◌, ℕ, zero, suc, ◌+◌, ◌*◌, ◌/◌, ◌%◌, ◌^◌, ◌<◌, ◌≤◌, ◌⊎◌, inl, inr, List, [], ◌∷◌, ◌++◌, length, get_or, refl, ap, ap₂, ◌∙◌, arith, mod-lt, lit<}
use Rattle.std.proofs.lemmas.Bool.{cases_lt}
use Rattle.std.proofs.lemmas.Simd.{get_or_wider, get_or_narrower, get_or-chunk, length-chunk}
use Rattle.std.specs.Simd.Lanes.{number_l, digits_l, chunk, pick_l, Each1}
use Rattle.std.specs.Prelude.{slice_index}
use Rattle.code_paths.specs.declared.costs.CostPair.{CostPair}
use Rattle.soft_metric.specs.Squares.{IsSmallPair}
use Rattle.inner_chain.specs.CostTables.{IsPairAt, IsRoom, pair_at}
use Rattle.inner_chain.specs.StepPairs.{IsInLanes, costs_in, lane_at, lane_of, word_lanes}

-- ---- from lanes to numbers
digits_len : (p n x : ℕ) → length (digits_l p n x) ≡ n
digits_len p zero x = refl
digits_len p (suc n) x = ap suc (digits_len p n (x / p))

digits_small : (n x : ℕ) → Each1 (λ d. d < 256) (digits_l 256 n x)
digits_small zero x = tt
digits_small (suc n) x = (mod-lt x (lit< tt), digits_small n (x / 256))

two_digits : (ys : List ℕ) → length ys ≡ 2 → number_l 256 ys ≡ get_or ys 0 0 + 256 * get_or ys 1 0
two_digits (a ∷ b ∷ []) l = omega arith
two_digits [] l = absurd (omega (arith, l))
two_digits (a ∷ []) l = absurd (omega (arith, l))
two_digits (a ∷ b ∷ c ∷ ys) l = absurd (omega (arith, l))

all_fit : (xs : List ℕ) → Each1 (λ x. x < 4294967296) xs → (k : ℕ) → get_or xs k 0 < 4294967296
all_fit [] e k = lit< tt
all_fit (x ∷ xs) e zero = e.0
all_fit (x ∷ xs) e (suc k) = all_fit xs e.1 k

abbrev pub numbers_from : ℕ → List ℕ → List ℕ
numbers_from n lanes = digits_l 65536 (2 * n) (number_l 256 (digits_l 256 (4 * n) (number_l 4294967296 lanes)))

-- of n lanes
module _ (n : ℕ) (lanes : List ℕ) (fits : Each1 (λ x. x < 4294967296) lanes) where
  abbrev bytes : List ℕ
  bytes = digits_l 256 (4 * n) (number_l 4294967296 lanes)

  byte_at : (j i : ℕ) → j < n → i < 4 → get_or bytes (4 * j + i) 0 ≡ get_or lanes j 0 / 256 ^ i % 256
  byte_at j i k l = get_or_narrower 4294967296 4 256 (4 * n) lanes j i refl fits l (omega (arith, k, l))

  number_at : (j i : ℕ) → j < n → i < 2 → get_or (numbers_from n lanes) (2 * j + i) 0 ≡ get_or lanes j 0 / 256 ^ (2 * i) % 256 + 256 * (get_or lanes j 0 / 256 ^ (2 * i + 1) % 256)
  number_at j i k l =
      let long : length bytes ≡ 4 * n = digits_len 256 (4 * n) (number_l 4294967296 lanes) in
      let a : 2 * (2 * j + i) + 0 ≡ 4 * j + 2 * i = omega arith in
      let b : 2 * (2 * j + i) + 1 ≡ 4 * j + (2 * i + 1) = omega arith in
      get_or_wider 256 2 65536 (2 * n) bytes (2 * j + i) refl (digits_small (4 * n) (number_l 4294967296 lanes)) (omega (arith, k, l))
      ∙ two_digits (chunk (2 * (2 * j + i)) 2 bytes) (length-chunk (2 * (2 * j + i)) 2 bytes (omega (arith, long, k, l)))
      ∙ ap₂ (λ x y. x + 256 * y) (get_or-chunk (2 * (2 * j + i)) 2 bytes 0 0 (lit< tt) ∙ ap (λ z. get_or bytes z 0) a ∙ byte_at j (2 * i) k (omega (arith, l)))
      (get_or-chunk (2 * (2 * j + i)) 2 bytes 1 0 (lit< tt) ∙ ap (λ z. get_or bytes z 0) b ∙ byte_at j (2 * i + 1) k (omega (arith, l)))

  pub zero_at : (k : ℕ) → k < n → get_or (numbers_from n lanes) (2 * k) 0 ≡ get_or lanes k 0 % 65536
  zero_at k l =
      let e : 2 * k ≡ 2 * k + 0 = omega arith in
      ap (λ z. get_or (numbers_from n lanes) z 0) e ∙ number_at k 0 l (lit< tt) ∙ omega arith

  pub one_at : (k : ℕ) → k < n → get_or (numbers_from n lanes) (2 * k + 1) 0 ≡ get_or lanes k 0 / 65536
  one_at k l = number_at k 1 l (lit< tt) ∙ omega (arith, all_fit lanes fits k)

-- ---- shuffles
abbrev joined : List ℕ → List ℕ → List ℕ → List ℕ → List ℕ → List ℕ → List ℕ
joined js ks x y z w = pick_l 0 (pick_l 0 (x ++ y) js ++ pick_l 0 (z ++ w) js) ks

pub joined_is : (js ks : List ℕ) {x y z w a b c d : List ℕ} → x ≡ a → y ≡ b → z ≡ c → w ≡ d → joined js ks x y z w ≡ joined js ks a b c d
joined_is js ks {x} {y} {z} {w} {a} {b} {c} {d} ex ey ez ew =
    ap (λ l. joined js ks l y z w) ex ∙ ap (λ l. joined js ks a l z w) ey ∙ ap (λ l. joined js ks a b l w) ez ∙ ap (λ l. joined js ks a b c l) ew

-- ---- small costs
pub small_at : (costs : List (ℕ × ℕ)) → IsRoom costs → (n : ℕ) → IsSmallPair (pair_at costs n)
small_at costs room n = go (cases_lt n 1536)
  where
    go : (n < 1536) ⊎ (1536 ≤ n) → IsSmallPair (pair_at costs n)
    go (inl less) = room.small n (omega (arith, less, room.long))
    go (inr more) = let none = room.last n more in (omega (arith, ap (λ (p : ℕ × ℕ). p.0) none), omega (arith, ap (λ (p : ℕ × ℕ). p.1) none))

pub costs_back : (p : ℕ × ℕ) → IsSmallPair p → costs_in (lane_of p) ≡ p
costs_back p small =
    let zero_is : lane_of p % 65536 ≡ p.0 = omega (arith, small.0) in
    let one_is : lane_of p / 65536 ≡ p.1 = omega (arith, small.0) in
    ap₂ (λ (a b : ℕ). (a, b)) zero_is one_is

module _ (costs : List (ℕ × ℕ)) (room : IsRoom costs) where
  pub back_at : (n : ℕ) → costs_in (lane_at costs n) ≡ pair_at costs n
  back_at n = costs_back (pair_at costs n) (small_at costs room n)

  pub lane_small : (n : ℕ) → IsSmallPair (costs_in (lane_at costs n))
  lane_small n =
      let e = back_at n in
      let s = small_at costs room n in
      (omega (arith, s.0, s.1, ap (λ (p : ℕ × ℕ). p.0) e), omega (arith, s.0, s.1, ap (λ (p : ℕ × ℕ). p.1) e))

  pub lanes_small : (x y z w k : ℕ) → k < 4 → IsSmallPair (costs_in (slice_index (word_lanes costs x y z w) k))
  lanes_small x y z w zero l = lane_small x
  lanes_small x y z w (suc zero) l = lane_small y
  lanes_small x y z w (suc (suc zero)) l = lane_small z
  lanes_small x y z w (suc (suc (suc zero))) l = lane_small w
  lanes_small x y z w (suc (suc (suc (suc k)))) l = absurd (omega (arith, l))

  pub pair_of_lanes : (x y : ℕ) (c : CostPair) → IsInLanes (lane_at costs x) (lane_at costs y) c → IsPairAt costs x y c
  pair_of_lanes x y c p = record { x_is = p.x_is ∙ back_at x; y_is = p.y_is ∙ back_at y }
