-- Words whose bits are put in the order of states.
use Rattle.std.proofs.Common.{◌≡◌, ℕ, zero, suc, ◌+◌, ◌-◌, ◌*◌, ◌/◌, ◌%◌, ◌^◌, ◌<◌, ◌≤◌, ◌⊎◌, inl, inr, List, [], ◌∷◌, map, length, get_or, refl, sym, ap, ap₂, ◌∙◌, subst, arith, bit_and}
use Rattle.std.proofs.lemmas.Bool.{cases_lt}
use Rattle.std.proofs.lemmas.Simd.{get_or-zip2, length-zip2}
use Rattle.std.proofs.lemmas.List.{length-map}
use Rattle.std.specs.Int.{bit_not, w64}
use Rattle.std.specs.Int.Bits.{bit_xor}
use Rattle.std.specs.Simd.Lanes.{zip2, Each2}
use Rattle.acs_lanes.specs.Phases.{differ, in_order, moved_by}
use Rattle.acs_lanes.proofs.LaneLaws.{at_map}

-- ---- four words

pub shifts_small : (xs ss : List ℕ) → ((k : ℕ) → k < length ss → get_or ss k 0 < 64) → Each2 (λ a b. b < 64) xs ss
shifts_small [] ss h = tt
shifts_small (x ∷ xs) [] h = tt
shifts_small (x ∷ xs) (s ∷ ss) h = (h 0 (omega arith), shifts_small xs ss (λ k l. h (suc k) (omega (arith, l))))

abbrev xors : List ℕ → List ℕ → List ℕ
xors xs ys = zip2 bit_xor xs ys

abbrev downs : List ℕ → List ℕ → List ℕ
downs xs ss = zip2 (λ a b. a / 2 ^ b) xs ss

abbrev ups : List ℕ → List ℕ → List ℕ
ups xs ss = zip2 (λ a b. a * 2 ^ b % 18446744073709551616) xs ss

module _ (before shifts masks : List ℕ) (lb : length before ≡ 4) (ls : length shifts ≡ 4) (lm : length masks ≡ 4) where
  abbrev words : List ℕ
  words = map (bit_not w64) before

  lw : length words ≡ 4
  lw = length-map before (bit_not w64) ∙ lb

  abbrev pub differs : List ℕ
  differs = zip2 bit_and (xors (downs words shifts) words) masks

  abbrev pub moved_four : List ℕ
  moved_four = xors (xors words differs) (ups differs shifts)

  downs_len : length (downs words shifts) ≡ 4
  downs_len = length-zip2 (λ a b. a / 2 ^ b) words shifts (lw ∙ sym ls) ∙ lw

  both_len : length (xors (downs words shifts) words) ≡ 4
  both_len = length-zip2 bit_xor (downs words shifts) words (downs_len ∙ sym lw) ∙ downs_len

  pub differs_len : length differs ≡ 4
  differs_len = length-zip2 bit_and (xors (downs words shifts) words) masks (both_len ∙ sym lm) ∙ both_len

  ups_len : length (ups differs shifts) ≡ 4
  ups_len = length-zip2 (λ a b. a * 2 ^ b % 18446744073709551616) differs shifts (differs_len ∙ sym ls) ∙ differs_len

  low_len : length (xors words differs) ≡ 4
  low_len = length-zip2 bit_xor words differs (lw ∙ sym differs_len) ∙ lw

  pub moved_len : length moved_four ≡ 4
  moved_len = length-zip2 bit_xor (xors words differs) (ups differs shifts) (low_len ∙ sym ups_len) ∙ low_len

  module _ (k : ℕ) (l : k < 4) where
    differs_at : get_or differs k 0 ≡ differ (get_or shifts k 0) (get_or masks k 0) (get_or words k 0)
    differs_at =
        get_or-zip2 bit_and (xors (downs words shifts) words) masks k 0 0 0 (omega (arith, both_len, l)) (omega (arith, lm, l))
        ∙ ap (λ z. bit_and z (get_or masks k 0)) (
        get_or-zip2 bit_xor (downs words shifts) words k 0 0 0 (omega (arith, downs_len, l)) (omega (arith, lw, l))
        ∙ ap (λ z. bit_xor z (get_or words k 0)) (get_or-zip2 (λ a b. a / 2 ^ b) words shifts k 0 0 0 (omega (arith, lw, l)) (omega (arith, ls, l))))

    pub moved_at : get_or moved_four k 0 ≡ moved_by (get_or shifts k 0) (get_or masks k 0) (bit_not w64 (get_or before k 0))
    moved_at =
        get_or-zip2 bit_xor (xors words differs) (ups differs shifts) k 0 0 0 (omega (arith, low_len, l)) (omega (arith, ups_len, l))
        ∙ ap₂ bit_xor (get_or-zip2 bit_xor words differs k 0 0 0 (omega (arith, lw, l)) (omega (arith, differs_len, l)) ∙ ap (bit_xor (get_or words k 0)) differs_at)
        (get_or-zip2 (λ a b. a * 2 ^ b % 18446744073709551616) differs shifts k 0 0 0 (omega (arith, differs_len, l)) (omega (arith, ls, l)) ∙ ap (λ z. z * 2 ^ get_or shifts k 0 % 18446744073709551616) differs_at)
        ∙ ap (moved_by (get_or shifts k 0) (get_or masks k 0)) (at_map (bit_not w64) before k (omega (arith, lb, l)))

-- ---- twelve words, four at a time

abbrev pub all_moved : ℕ → List ℕ → List ℕ → List ℕ → List ℕ → Type 0
all_moved from shifts masks old new = (k : ℕ) → k < 4 → get_or new (from + k) 0 ≡ moved_by (get_or shifts k 0) (get_or masks k 0) (bit_not w64 (get_or old (from + k) 0))

abbrev pub same_below_of : ℕ → List ℕ → List ℕ → Type 0
same_below_of from old new = (k : ℕ) → k < from → get_or new k 0 ≡ get_or old k 0

abbrev pub same_above_of : ℕ → List ℕ → List ℕ → Type 0
same_above_of from old new = (k : ℕ) → from + 4 ≤ k → get_or new k 0 ≡ get_or old k 0

module _ (w0 w1 w2 w3 : List ℕ) (at : ℕ) (a : all_moved at (3 ∷ 8 ∷ 12 ∷ 14 ∷ []) (723401728380766730 ∷ 280375465148160 ∷ 264913582878960 ∷ 225176545447116 ∷ []) w0 w1)
    (b : all_moved (at + 4) (15 ∷ 15 ∷ 3 ∷ 8 ∷ []) (187647121205930 ∷ 187647121205930 ∷ 723401728380766730 ∷ 280375465148160 ∷ []) w1 w2) (c : all_moved (at + 8) (12 ∷ 14 ∷ 15 ∷ 15 ∷ []) (264913582878960 ∷ 225176545447116 ∷ 187647121205930 ∷ 187647121205930 ∷ []) w2 w3)
    (up_a : same_above_of at w0 w1) (low_b : same_below_of (at + 4) w1 w2) (up_b : same_above_of (at + 4) w1 w2) (low_c : same_below_of (at + 8) w2 w3) where
  first : (k : ℕ) → k < 4 → get_or w3 (at + k) 0 ≡ in_order k (get_or w0 (at + k) 0)
  first k l = low_c (at + k) (omega (arith, l)) ∙ low_b (at + k) (omega (arith, l)) ∙ a k l ∙ by k l
    where
      by : (k : ℕ) → k < 4 → moved_by (get_or (3 ∷ 8 ∷ 12 ∷ 14 ∷ []) k 0) (get_or (723401728380766730 ∷ 280375465148160 ∷ 264913582878960 ∷ 225176545447116 ∷ []) k 0) (bit_not w64 (get_or w0 (at + k) 0)) ≡ in_order k (get_or w0 (at + k) 0)
      by zero l = refl
      by (suc zero) l = refl
      by (suc (suc zero)) l = refl
      by (suc (suc (suc zero))) l = refl
      by (suc (suc (suc (suc k)))) l = absurd (omega (arith, l))

  middle : (k : ℕ) → k < 4 → get_or w3 (at + 4 + k) 0 ≡ in_order ((4 + k) % 6) (get_or w0 (at + 4 + k) 0)
  middle k l = low_c (at + 4 + k) (omega (arith, l)) ∙ b k l ∙ by k l ∙ ap (in_order ((4 + k) % 6)) (up_a (at + 4 + k) (omega arith))
    where
      by : (k : ℕ) → k < 4 → moved_by (get_or (15 ∷ 15 ∷ 3 ∷ 8 ∷ []) k 0) (get_or (187647121205930 ∷ 187647121205930 ∷ 723401728380766730 ∷ 280375465148160 ∷ []) k 0) (bit_not w64 (get_or w1 (at + 4 + k) 0)) ≡ in_order ((4 + k) % 6) (get_or w1 (at + 4 + k) 0)
      by zero l = refl
      by (suc zero) l = refl
      by (suc (suc zero)) l = refl
      by (suc (suc (suc zero))) l = refl
      by (suc (suc (suc (suc k)))) l = absurd (omega (arith, l))

  last : (k : ℕ) → k < 4 → get_or w3 (at + 8 + k) 0 ≡ in_order ((8 + k) % 6) (get_or w0 (at + 8 + k) 0)
  last k l = c k l ∙ by k l ∙ ap (in_order ((8 + k) % 6)) (up_b (at + 8 + k) (omega arith) ∙ up_a (at + 8 + k) (omega arith))
    where
      by : (k : ℕ) → k < 4 → moved_by (get_or (12 ∷ 14 ∷ 15 ∷ 15 ∷ []) k 0) (get_or (264913582878960 ∷ 225176545447116 ∷ 187647121205930 ∷ 187647121205930 ∷ []) k 0) (bit_not w64 (get_or w2 (at + 8 + k) 0)) ≡ in_order ((8 + k) % 6) (get_or w2 (at + 8 + k) 0)
      by zero l = refl
      by (suc zero) l = refl
      by (suc (suc zero)) l = refl
      by (suc (suc (suc zero))) l = refl
      by (suc (suc (suc (suc k)))) l = absurd (omega (arith, l))

  abbrev good : ℕ → ℕ → Type 0
  good i p = get_or w3 i 0 ≡ in_order p (get_or w0 i 0)

  moved_to : (i j p q : ℕ) → i ≡ j → p ≡ q → good i p → good j q
  moved_to i j p q e f h = subst (λ j. good j q) e (subst (λ q. good i q) f h)

  pub twelve_ordered : (k : ℕ) → k < 12 → get_or w3 (at + k) 0 ≡ in_order (k % 6) (get_or w0 (at + k) 0)
  twelve_ordered k l = go (cases_lt k 4) (cases_lt k 8)
    where
      go : (k < 4) ⊎ (4 ≤ k) → (k < 8) ⊎ (8 ≤ k) → good (at + k) (k % 6)
      go (inl m) n = let e : k ≡ k % 6 = omega (arith, m) in moved_to (at + k) (at + k) k (k % 6) refl e (first k m)
      go (inr m) (inl n) =
          let i : at + 4 + (k - 4) ≡ at + k = omega (arith, m) in
          let e : (4 + (k - 4)) % 6 ≡ k % 6 = omega (arith, m) in
          moved_to (at + 4 + (k - 4)) (at + k) ((4 + (k - 4)) % 6) (k % 6) i e (middle (k - 4) (omega (arith, m, n)))
      go (inr m) (inr n) =
          let i : at + 8 + (k - 8) ≡ at + k = omega (arith, n) in
          let e : (8 + (k - 8)) % 6 ≡ k % 6 = omega (arith, n) in
          moved_to (at + 8 + (k - 8)) (at + k) ((8 + (k - 8)) % 6) (k % 6) i e (last (k - 8) (omega (arith, l, n)))

-- ---- twelve words more

module _ (k : ℕ) (start old new : List ℕ) (here : (i : ℕ) → i < 12 → get_or new (12 * k + i) 0 ≡ in_order (i % 6) (get_or old (12 * k + i) 0)) (below : (i : ℕ) → i < 12 * k → get_or new i 0 ≡ get_or old i 0)
    (kept : (i : ℕ) → 12 * k ≤ i → get_or old i 0 ≡ get_or start i 0) (h : (i : ℕ) → i < 12 * k → get_or old i 0 ≡ in_order (i % 6) (get_or start i 0)) where
  pub twelve_more : (i : ℕ) → i < 12 * (k + 1) → get_or new i 0 ≡ in_order (i % 6) (get_or start i 0)
  twelve_more i m = go (cases_lt i (12 * k))
    where
      go : (i < 12 * k) ⊎ (12 * k ≤ i) → get_or new i 0 ≡ in_order (i % 6) (get_or start i 0)
      go (inl n) = below i n ∙ h i n
      go (inr n) =
          let j = i - 12 * k in
          let e : 12 * k + j ≡ i = omega (arith, n) in
          let f : j % 6 ≡ i % 6 = omega (arith, n) in
          ap (λ z. get_or new z 0) (sym e) ∙ here j (omega (arith, m, n)) ∙ ap₂ (λ p z. in_order p (get_or old z 0)) f e ∙ ap (in_order (i % 6)) (kept i n)
