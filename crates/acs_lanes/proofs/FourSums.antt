-- The sums of four steps' costs, each step's in one word.
use Rattle.std.proofs.Common.{◌≡◌, ℕ, zero, suc, ◌+◌, ◌-◌, ◌*◌, ◌/◌, ◌%◌, ◌<◌, ◌≤◌, ◌⊎◌, inl, inr, List, [], ◌∷◌, ◌++◌, map, length, get_or, refl, sym, ap, ap₂, ◌∙◌, subst, arith, lit<}
use Rattle.std.proofs.lemmas.Bool.{cases_lt}
use Rattle.std.proofs.lemmas.Grind.{same_number_lists}
use Rattle.std.specs.Simd.Lanes.{zip2, Each1}
use Rattle.code_paths.specs.declared.costs.CostPair.{CostPair}
use Rattle.acs_lanes.specs.Lanes.{four}
use Rattle.acs_lanes.specs.Lanes16.{word_of}
use Rattle.acs_lanes.specs.Phases.{IsLow, all_sums, sum_word}
use Rattle.std.specs.Prelude.{slice_index, max}
use Rattle.std.specs.List.{range_with_len}
use Rattle.acs_lanes.proofs.Costs16.{lanes_of, pair_fits, pair_part, sums_are}
use Rattle.acs_lanes.proofs.Laid.{at_range}
use Rattle.acs_lanes.proofs.Rows16.{same_default}
use Rattle.acs_lanes.proofs.WordParts.{four_by, lane_at, lanes_from, lanes_len, parts_repeated, word_at, words_from, words_len}

-- ---- one word in all lanes

module _ (pair : CostPair) where
  x0y0 : pair.x0 + pair.y0 < 65536
  x0y0 = omega (arith, pair.small.x0_small, pair.small.y0_small)

  x0y1 : pair.x0 + pair.y1 < 65536
  x0y1 = omega (arith, pair.small.x0_small, pair.small.y1_small)

  x1y0 : pair.x1 + pair.y0 < 65536
  x1y0 = omega (arith, pair.small.x1_small, pair.small.y0_small)

  x1y1 : pair.x1 + pair.y1 < 65536
  x1y1 = omega (arith, pair.small.x1_small, pair.small.y1_small)

  four_fit : Each1 (λ x. x < 65536) (four pair)
  four_fit = (x0y0, (x0y1, (x1y0, (x1y1, tt))))

  pub sums_repeated : (word : ℕ) → word ≡ sum_word pair → lanes_from (word ∷ word ∷ word ∷ word ∷ []) ≡ all_sums pair
  sums_repeated word e =
      subst (λ w. lanes_from (w ∷ w ∷ w ∷ w ∷ []) ≡ all_sums pair) (sym e) (parts_repeated (pair.x0 + pair.y0) (pair.x0 + pair.y1) (pair.x1 + pair.y0) (pair.x1 + pair.y1) x0y0 x0y1 x1y0 x1y1)

-- what holds of four numbers
by_four : (P : ℕ → Type 0) → P 0 → P 1 → P 2 → P 3 → (i : ℕ) → i < 4 → P i
by_four P a b c d zero l = a
by_four P a b c d (suc zero) l = b
by_four P a b c d (suc (suc zero)) l = c
by_four P a b c d (suc (suc (suc zero))) l = d
by_four P a b c d (suc (suc (suc (suc i)))) l = absurd (omega (arith, l))

-- ---- four words

abbrev x_places : List ℕ
x_places = 0 ∷ 0 ∷ 1 ∷ 1 ∷ 4 ∷ 4 ∷ 5 ∷ 5 ∷ 8 ∷ 8 ∷ 9 ∷ 9 ∷ 12 ∷ 12 ∷ 13 ∷ 13 ∷ []

abbrev y_places : List ℕ
y_places = 2 ∷ 3 ∷ 2 ∷ 3 ∷ 6 ∷ 7 ∷ 6 ∷ 7 ∷ 10 ∷ 11 ∷ 10 ∷ 11 ∷ 14 ∷ 15 ∷ 14 ∷ 15 ∷ []

abbrev pub added_four : List ℕ → List ℕ
added_four costs = zip2 (λ a b. (a + b) % 65536) (lanes_of (costs ++ costs) x_places) (lanes_of (costs ++ costs) y_places)

abbrev parts : CostPair → List ℕ
parts pair = four_by pair.x0 pair.x1 pair.y0 pair.y1

all_fit : (xs : List ℕ) → Each1 (λ x. x < 65536) xs → (k : ℕ) → get_or xs k 0 < 65536
all_fit [] h k = lit< tt
all_fit (x ∷ xs) h zero = h.0
all_fit (x ∷ xs) h (suc k) = all_fit xs h.1 k

both_fit : (xs ys : List ℕ) → Each1 (λ x. x < 65536) xs → Each1 (λ x. x < 65536) ys → Each1 (λ x. x < 65536) (xs ++ ys)
both_fit [] ys g h = h
both_fit (x ∷ xs) ys g h = (g.0, both_fit xs ys g.1 h)

module _ (a b c d : CostPair) where
  abbrev words : List ℕ
  words = word_of a ∷ word_of b ∷ word_of c ∷ word_of d ∷ []

  fit : Each1 (λ x. x < 18446744073709551616) words
  fit = (pair_fits a, (pair_fits b, (pair_fits c, (pair_fits d, tt))))

  abbrev of_four : ℕ → CostPair
  of_four zero = a
  of_four (suc zero) = b
  of_four (suc (suc zero)) = c
  of_four (suc (suc (suc j))) = d

  abbrev costs : List ℕ
  costs = map (λ k. slice_index (parts (of_four (k / 4))) (k % 4)) (range_with_len 0 16)

  cost_at : (j i : ℕ) → j < 4 → i < 4 → get_or (lanes_from words) (4 * j + i) 0 ≡ get_or (parts (of_four j)) i 0
  cost_at zero i k l = lane_at words fit 0 i k l ∙ pair_part a i l
  cost_at (suc zero) i k l = lane_at words fit 1 i k l ∙ pair_part b i l
  cost_at (suc (suc zero)) i k l = lane_at words fit 2 i k l ∙ pair_part c i l
  cost_at (suc (suc (suc zero))) i k l = lane_at words fit 3 i k l ∙ pair_part d i l
  cost_at (suc (suc (suc (suc j)))) i k l = absurd (omega arith)

  costs_are : lanes_from words ≡ costs
  costs_are =
      same_number_lists (lanes_from words) costs (lanes_len words)
      (λ k l.
      let m : k < 16 = omega (arith, l, lanes_len words) in
      let e : 4 * (k / 4) + k % 4 ≡ k = omega arith in
      ap (λ z. get_or (lanes_from words) z 0) (sym e) ∙ cost_at (k / 4) (k % 4) (omega arith) (omega arith) ∙ sym (at_range (λ k. slice_index (parts (of_four (k / 4))) (k % 4)) 16 k refl m))

  abbrev all : List ℕ
  all = four a ++ (four b ++ (four c ++ four d))

  sums_all : added_four costs ≡ all
  sums_all = ap₂ (λ x y. x ++ y) (sums_are a) (ap₂ (λ x y. x ++ y) (sums_are b) (ap₂ (λ x y. x ++ y) (sums_are c) (sums_are d)))

  sums_fit : Each1 (λ x. x < 65536) all
  sums_fit = both_fit (four a) (four b ++ (four c ++ four d)) (four_fit a) (both_fit (four b) (four c ++ four d) (four_fit b) (both_fit (four c) (four d) (four_fit c) (four_fit d)))

  abbrev pub four_words : List ℕ
  four_words = sum_word a ∷ sum_word b ∷ sum_word c ∷ sum_word d ∷ []

  word_is : (j : ℕ) → j < 4 → get_or (words_from all) j 0 ≡ get_or four_words j 0
  word_is zero l = word_at all sums_fit (all_fit all sums_fit) 0 l
  word_is (suc zero) l = word_at all sums_fit (all_fit all sums_fit) 1 l
  word_is (suc (suc zero)) l = word_at all sums_fit (all_fit all sums_fit) 2 l
  word_is (suc (suc (suc zero))) l = word_at all sums_fit (all_fit all sums_fit) 3 l
  word_is (suc (suc (suc (suc j)))) l = absurd (omega arith)

  pub four_sums_are : (w x y z : ℕ) → w ≡ word_of a → x ≡ word_of b → y ≡ word_of c → z ≡ word_of d → added_four (lanes_from (w ∷ x ∷ y ∷ z ∷ [])) ≡ all
  four_sums_are w x y z ew ex ey ez =
      ap (λ l. added_four (lanes_from l)) (ap₂ (λ v l. v ∷ l) ew (ap₂ (λ v l. v ∷ l) ex (ap₂ (λ v w. v ∷ w ∷ []) ey ez))) ∙ ap added_four costs_are ∙ sums_all

  pub words_are : (sums : List ℕ) → sums ≡ all → words_from sums ≡ four_words
  words_are sums e = ap words_from e ∙ same_number_lists (words_from all) four_words (words_len all) (λ j l. word_is j (omega (arith, l, words_len all)))

  sums_at : (r j : ℕ) → r < 4 → j < 4 → get_or (four (of_four r)) j 0 ≡ get_or all (4 * r + j) 0
  sums_at zero j k l = by_four (λ j. get_or (four a) j 0 ≡ get_or all (4 * 0 + j) 0) refl refl refl refl j l
  sums_at (suc zero) j k l = by_four (λ j. get_or (four b) j 0 ≡ get_or all (4 * 1 + j) 0) refl refl refl refl j l
  sums_at (suc (suc zero)) j k l = by_four (λ j. get_or (four c) j 0 ≡ get_or all (4 * 2 + j) 0) refl refl refl refl j l
  sums_at (suc (suc (suc zero))) j k l = by_four (λ j. get_or (four d) j 0 ≡ get_or all (4 * 3 + j) 0) refl refl refl refl j l
  sums_at (suc (suc (suc (suc r)))) j k l = absurd (omega arith)

-- ---- four words more

pub map_at : (ps : List CostPair) (i : ℕ) (d : CostPair) → i < length ps → slice_index (map sum_word ps) i ≡ sum_word (get_or ps i d)
map_at [] i d l = absurd (omega (arith, l))
map_at (p ∷ ps) zero d l = refl
map_at (p ∷ ps) (suc i) d l = map_at ps i d (omega (arith, l))

module _ (ps : List CostPair) (k : ℕ) (a b c d : CostPair) (sums old new : List ℕ) (l : 4 * k + 4 ≤ length ps) (ea : get_or ps (4 * k) a ≡ a) (eb : get_or ps (4 * k + 1) b ≡ b) (ec : get_or ps (4 * k + 2) c ≡ c) (ed : get_or ps (4 * k + 3) d ≡ d)
    (es : sums ≡ four_words a b c d) (here : (r : ℕ) → r < 4 → get_or new (4 * k + r) 0 ≡ get_or sums r 0) (below : (i : ℕ) → i < 4 * k → get_or new i 0 ≡ get_or old i 0)
    (h : (i : ℕ) → i < 4 * k → get_or old i 0 ≡ get_or (map sum_word ps) i 0) where
  each : (r : ℕ) → r < 4 → get_or new (4 * k + r) 0 ≡ get_or (map sum_word ps) (4 * k + r) 0
  each zero m = let e : 4 * k ≡ 4 * k + 0 = omega arith in here 0 m ∙ ap (λ z. get_or z 0 0) es ∙ ap sum_word (sym ea ∙ ap (λ i. get_or ps i a) e) ∙ sym (map_at ps (4 * k + 0) a (omega (arith, l)))
  each (suc zero) m = here 1 m ∙ ap (λ z. get_or z 1 0) es ∙ ap sum_word (sym eb) ∙ sym (map_at ps (4 * k + 1) b (omega (arith, l)))
  each (suc (suc zero)) m = here 2 m ∙ ap (λ z. get_or z 2 0) es ∙ ap sum_word (sym ec) ∙ sym (map_at ps (4 * k + 2) c (omega (arith, l)))
  each (suc (suc (suc zero))) m = here 3 m ∙ ap (λ z. get_or z 3 0) es ∙ ap sum_word (sym ed) ∙ sym (map_at ps (4 * k + 3) d (omega (arith, l)))
  each (suc (suc (suc (suc r)))) m = absurd (omega (arith, m))

  pub four_more : (i : ℕ) → i < 4 * (k + 1) → get_or new i 0 ≡ get_or (map sum_word ps) i 0
  four_more i m = go (cases_lt i (4 * k))
    where
      go : (i < 4 * k) ⊎ (4 * k ≤ i) → get_or new i 0 ≡ get_or (map sum_word ps) i 0
      go (inl n) = below i n ∙ h i n
      go (inr n) =
          let e : 4 * k + (i - 4 * k) ≡ i = omega (arith, n) in
          ap (λ j. get_or new j 0) (sym e) ∙ each (i - 4 * k) (omega (arith, m, n)) ∙ ap (λ j. get_or (map sum_word ps) j 0) e

-- ---- the highest sums

-- each sum of the first pairs is at most that in its lane
abbrev pub AreMost : List CostPair → ℕ → List ℕ → Type 0
AreMost ps count most = (i j : ℕ) (d : CostPair) → i < count → j < 4 → get_or (four (get_or ps i d)) j 0 ≤ get_or most (4 * (i % 4) + j) 0

module _ (ps : List CostPair) (k : ℕ) (a b c d : CostPair) (sums old new : List ℕ) (l : 4 * k + 4 ≤ length ps) (ea : get_or ps (4 * k) a ≡ a) (eb : get_or ps (4 * k + 1) b ≡ b) (ec : get_or ps (4 * k + 2) c ≡ c) (ed : get_or ps (4 * k + 3) d ≡ d)
    (es : sums ≡ four a ++ (four b ++ (four c ++ four d))) (is : (i : ℕ) → i < 16 → get_or new i 0 ≡ max (get_or old i 0) (get_or sums i 0)) (h : AreMost ps (4 * k) old) where
  pair_is : (r : ℕ) (e : CostPair) → r < 4 → get_or ps (4 * k + r) e ≡ of_four a b c d r
  pair_is zero e m = let f : 4 * k + 0 ≡ 4 * k = omega arith in ap (λ i. get_or ps i e) f ∙ same_default ps (4 * k) e a (omega (arith, l)) ∙ ea
  pair_is (suc zero) e m = same_default ps (4 * k + 1) e b (omega (arith, l)) ∙ eb
  pair_is (suc (suc zero)) e m = same_default ps (4 * k + 2) e c (omega (arith, l)) ∙ ec
  pair_is (suc (suc (suc zero))) e m = same_default ps (4 * k + 3) e d (omega (arith, l)) ∙ ed
  pair_is (suc (suc (suc (suc r)))) e m = absurd (omega (arith, m))

  pub most_more : AreMost ps (4 * (k + 1)) new
  most_more i j e m n = go (cases_lt i (4 * k))
    where
      go : (i < 4 * k) ⊎ (4 * k ≤ i) → get_or (four (get_or ps i e)) j 0 ≤ get_or new (4 * (i % 4) + j) 0
      go (inl q) = omega (arith, h i j e q n, is (4 * (i % 4) + j) (omega (arith, n)))
      go (inr q) =
          let r = i - 4 * k in
          let s : r < 4 = omega (arith, m, q) in
          let f : 4 * k + r ≡ i = omega (arith, q) in
          let g : i % 4 ≡ r = omega (arith, q, m) in
          let here = ap (λ i. get_or (four (get_or ps i e)) j 0) (sym f) ∙ ap (λ p. get_or (four p) j 0) (pair_is r e s) ∙ sums_at a b c d r j s n ∙ ap (λ z. get_or z (4 * r + j) 0) (sym es) in
          omega (arith, here, g, is (4 * r + j) (omega (arith, s, n)), ap (λ z. get_or new (4 * z + j) 0) g)

pub all_low : (ps : List CostPair) (count : ℕ) (most : List ℕ) → AreMost ps count most → ((i : ℕ) → i < 16 → get_or most i 0 < 4096) → (i : ℕ) (d : CostPair) → i < count → IsLow (get_or ps i d)
all_low ps count most h f i d l j m = omega (arith, h i j d l m, f (4 * (i % 4) + j) (omega (arith, m)))
