-- The sums of a symbol, one payload place more at a time.
use Rattle.std.proofs.Common.{◌≡◌, ℕ, zero, suc, ◌+◌, ◌*◌, ◌/◌, ◌<◌, ◌≤◌, min, Bool, true, false, cond, not, ◌&&◌, List, [], ◌∷◌, ◌++◌, length, get_or, map, refl, sym, ap, ap₂, ◌∙◌, arith}
use Rattle.std.specs.Prelude.{count_by, nat_lt}
use Rattle.std.specs.Bool.{beq}
use Rattle.std.proofs.lemmas.Bool.{lt-ltb}
use Rattle.std.proofs.lemmas.List.{map-append}
use Rattle.spec_words.specs.Words.{numbers}
use Rattle.spec_words.proofs.Counting.{numbers_end}
use Rattle.mode_set.specs.StreamTable.{payload, label_bits}
use Rattle.mode_set.specs.declared.modes.Shape.{Shape}
use Rattle.mode_set.specs.declared.modes.Shape.TheVariants.{Qpsk, Qam16, Qam64}
use Rattle.mode_set.specs.declared.modes.Hierarchy.{Hierarchy}
use Rattle.mode_set.specs.declared.modes.Stream.{Stream}
use Rattle.mode_set.specs.declared.modes.Stream.TheVariants.{Hp, Lp}
use Rattle.mode_set.specs.declared.settings.Settings.{Settings}
use Rattle.qam_map.specs.Points.{map_cell, value_of}
use Rattle.qam_map.specs.declared.cell.Cell.{Cell}
use Rattle.measure_report.specs.declared.sums.SymbolSums.{SymbolSums}
use Rattle.measure_sums.specs.Comparing.{Comparison, counts, carries, is_wrong, label_places, received, remade, power_of, squared_distance, symbol_sums, AlikeAreSummedAlike}
use Rattle.measure_sums.specs.Tables.{place_adds, plus, no_sums, AreLittle}
use Rattle.measure_sums.specs.Parts.{all, bits_at, wrong_at, power_at, error_at, cell_at, mute_at, sums_to, place_of, symbol_of}
use Rattle.hard_decision.specs.Hard.{hard_bit}
use Rattle.measure_sums.proofs.Counting.{no_numbers, sum_more, sum_same, count_same}

-- ---- the first n places

all_same : (a b c d e f g h a1 b1 c1 d1 e1 f1 g1 h1 : ℕ) → a ≡ a1 → b ≡ b1 → c ≡ c1 → d ≡ d1 → e ≡ e1 → f ≡ f1 → g ≡ g1 → h ≡ h1 → all a b c d e f g h ≡ all a1 b1 c1 d1 e1 f1 g1 h1
all_same a b c d e f g h a1 b1 c1 d1 e1 f1 g1 h1 p q r s t u v w = cc

pub none_summed : (x : Comparison) → no_sums ≡ sums_to x 0
none_summed x =
    all_same 0 0 0 0 0 0 0 0 _ _ _ _ _ _ _ _ (sym (no_numbers (cell_at x))) (sym (no_numbers (mute_at x))) (sym (no_numbers (power_at x))) (sym (no_numbers (error_at x)))
    (sym (no_numbers (bits_at x Hp))) (sym (no_numbers (wrong_at x Hp))) (sym (no_numbers (bits_at x Lp))) (sym (no_numbers (wrong_at x Lp)))

pub sums_more : (x : Comparison) (n : ℕ) (sums place : SymbolSums) → sums ≡ sums_to x n → place ≡ place_of x n → plus sums place ≡ sums_to x (n + 1)
sums_more x n sums place es ep =
    ap₂ plus es ep
    ∙ sym (all_same _ _ _ _ _ _ _ _ _ _ _ _ _ _ _ _ (sum_more (cell_at x) n) (sum_more (mute_at x) n) (sum_more (power_at x) n) (sum_more (error_at x) n)
    (sum_more (bits_at x Hp) n) (sum_more (wrong_at x Hp) n) (sum_more (bits_at x Lp) n) (sum_more (wrong_at x Lp) n))

-- ---- one place

abbrev place_if : Comparison → ℕ → Bool → SymbolSums
place_if x q b = all (cond b 1 0) (cond (not b) 1 0) (cond b (power_of (remade x q)) 0) (cond b (squared_distance (received x q) (remade x q)) 0)
    (cond b (count_by (carries x Hp) (label_places x)) 0) (cond b (count_by (λ e. carries x Hp e && is_wrong x q e) (label_places x)) 0)
    (cond b (count_by (carries x Lp) (label_places x)) 0) (cond b (count_by (λ e. carries x Lp e && is_wrong x q e) (label_places x)) 0)

module _ (s : Settings) (cells : List Cell) (weights : List ℕ) (l : ℕ) (labels : List ℕ) where
  abbrev x : Comparison
  x = symbol_of s cells weights l labels

  by_test : (q w : ℕ) (b : Bool) → counts x q ≡ b → nat_lt 0 w ≡ b → place_adds s.shape s.hierarchy (get_or labels q 0) (received x q) w ≡ place_of x q
  by_test q w true e f = ap (λ (b : Bool). cond b (place_adds s.shape s.hierarchy (get_or labels q 0) (received x q) 1) (place_adds s.shape s.hierarchy (get_or labels q 0) (received x q) 0)) f ∙ ap (place_if x q) (sym e)
  by_test q w false e f = ap (λ (b : Bool). cond b (place_adds s.shape s.hierarchy (get_or labels q 0) (received x q) 1) (place_adds s.shape s.hierarchy (get_or labels q 0) (received x q) 0)) f ∙ ap (place_if x q) (sym e)

  pub place_is : (q w : ℕ) (c : Cell) (shape : Shape × Hierarchy) → shape ≡ (s.shape, s.hierarchy) → received x q ≡ c → counts x q ≡ nat_lt 0 w → place_adds shape.0 shape.1 (get_or labels q 0) c w ≡ place_of x q
  place_is q w c shape em ec ew =
      ap (λ (z : Shape × Hierarchy). place_adds z.0 z.1 (get_or labels q 0) c w) em
      ∙ ap (λ (z : Cell). place_adds s.shape s.hierarchy (get_or labels q 0) z w) (sym ec)
      ∙ by_test q w (nat_lt 0 w) ew refl

pub weight_counts : (weights : List ℕ) (k : ℕ) → k < length weights → nat_lt 0 (min 15 (get_or weights k 15)) ≡ nat_lt 0 (get_or weights k 0)
weight_counts [] k l = absurd (omega (arith, l))
weight_counts (w ∷ ws) zero l = go w
  where
    go : (v : ℕ) → nat_lt 0 (min 15 v) ≡ nat_lt 0 v
    go zero = refl
    go (suc v) = lt-ltb 0 (min 15 (suc v)) (omega arith) ∙ sym (lt-ltb 0 (suc v) (omega arith))
weight_counts (w ∷ ws) (suc k) l = weight_counts ws k (omega (arith, l))

pub same_default : (cells : List Cell) (k : ℕ) (c d : Cell) → k < length cells → get_or cells k c ≡ get_or cells k d
same_default [] k c d l = absurd (omega (arith, l))
same_default (x ∷ xs) zero c d l = refl
same_default (x ∷ xs) (suc k) c d l = same_default xs k c d (omega (arith, l))

-- ---- what is added stays little

pub little_more : (a b : SymbolSums) (n : ℕ) → AreLittle a n → AreLittle b 1 → AreLittle (plus a b) (n + 1)
little_more a b n x y = record {
  cells = omega (arith, x.cells, y.cells);
  muted = omega (arith, x.muted, y.muted);
  power = omega (arith, x.power, y.power);
  error = omega (arith, x.error, y.error);
  hp = (omega (arith, x.hp.0, y.hp.0), omega (arith, x.hp.1, y.hp.1));
  lp = (omega (arith, x.lp.0, y.lp.0), omega (arith, x.lp.1, y.lp.1));
}

pub little_up : (a : SymbolSums) (m n : ℕ) → AreLittle a m → m ≤ n → AreLittle a n
little_up a m n x l = record {
  cells = omega (arith, x.cells, l);
  muted = omega (arith, x.muted, l);
  power = omega (arith, x.power, l);
  error = omega (arith, x.error, l);
  hp = (omega (arith, x.hp.0, l), omega (arith, x.hp.1, l));
  lp = (omega (arith, x.lp.0, l), omega (arith, x.lp.1, l));
}

-- ---- alike symbols

map_same : {A : Type 0} (f g : ℕ → A) (n : ℕ) → ((k : ℕ) → k < n → f k ≡ g k) → map f (numbers n) ≡ map g (numbers n)
unfolding numbers
map_same f g zero h = refl
map_same f g (suc n) h =
    let e : suc n ≡ n + 1 = omega arith in
    ap (λ (z : ℕ). map f (numbers z)) e ∙ ap (map f) (numbers_end n) ∙ map-append f (numbers n) (n ∷ [])
    ∙ ap₂ (λ x y. x ++ y ∷ []) (map_same f g n (λ k l. h k (omega (arith, l)))) (h n (omega arith))
    ∙ sym (ap (λ (z : ℕ). map g (numbers z)) e ∙ ap (map g) (numbers_end n) ∙ map-append g (numbers n) (n ∷ []))

real_place : (s : Shape) (i : ℕ) → i < label_bits s / 2 → 2 * i < label_bits s
real_place Qpsk i l = omega (arith, l)
real_place Qam16 i l = omega (arith, l)
real_place Qam64 i l = omega (arith, l)

imaginary_place : (s : Shape) (i : ℕ) → i < label_bits s / 2 → 2 * i + 1 < label_bits s
imaginary_place Qpsk i l = omega (arith, l)
imaginary_place Qam16 i l = omega (arith, l)
imaginary_place Qam64 i l = omega (arith, l)

abbrev cell_by : Shape → Hierarchy → List Bool → List Bool → Cell
cell_by s h r i = record { re = value_of s h r; im = value_of s h i }

map_cell_same : (s : Shape) (h : Hierarchy) (u v : ℕ → Bool) → ((e : ℕ) → e < label_bits s → u e ≡ v e) → map_cell s h u ≡ map_cell s h v
map_cell_same s h u v same =
    ap₂ (cell_by s h)
    (map_same (λ i. u (2 * i)) (λ i. v (2 * i)) (label_bits s / 2) (λ i l. same (2 * i) (real_place s i l)))
    (map_same (λ i. u (2 * i + 1)) (λ i. v (2 * i + 1)) (label_bits s / 2) (λ i l. same (2 * i + 1) (imaginary_place s i l)))

abbrev built : Settings → List Cell → List ℕ → ℕ → (ℕ → ℕ → Bool) → Comparison
built s cells weights symbol labels = record { settings = s; cells = cells; weights = weights; symbol = symbol; labels = labels }

module _ (s : Settings) (cells : List Cell) (weights : List ℕ) (symbol : ℕ) (u v : ℕ → ℕ → Bool) (same : (q e : ℕ) → q < payload s.mode → e < label_bits s.shape → u q e ≡ v q e) where
  abbrev one : Comparison
  one = built s cells weights symbol u

  abbrev two : Comparison
  two = built s cells weights symbol v

  point_same : (q : ℕ) → q < payload s.mode → remade one q ≡ remade two q
  point_same q l = map_cell_same s.shape s.hierarchy (u q) (v q) (λ e k. same q e l k)

  wrong_same : (σ : Stream) (q : ℕ) → q < payload s.mode → wrong_at one σ q ≡ wrong_at two σ q
  wrong_same σ q l =
      ap (λ (n : ℕ). cond (counts one q) n 0)
      (count_same (λ e. carries one σ e && is_wrong one q e) (λ e. carries two σ e && is_wrong two q e) (label_bits s.shape)
      (λ e k. ap (λ (b : Bool). carries one σ e && not (beq (hard e) b)) (same q e l k)))
    where
      hard : ℕ → Bool
      hard e = hard_bit s.shape s.hierarchy (received one q) e

  labels_same : symbol_sums one ≡ symbol_sums two
  labels_same =
      let n = payload s.mode in
      all_same _ _ _ _ _ _ _ _ _ _ _ _ _ _ _ _ refl refl
      (sum_same (power_at one) (power_at two) n (λ q l. ap (λ (c : Cell). cond (counts one q) (power_of c) 0) (point_same q l)))
      (sum_same (error_at one) (error_at two) n (λ q l. ap (λ (c : Cell). cond (counts one q) (squared_distance (received one q) c) 0) (point_same q l)))
      refl (sum_same (wrong_at one Hp) (wrong_at two Hp) n (wrong_same Hp)) refl (sum_same (wrong_at one Lp) (wrong_at two Lp) n (wrong_same Lp))

pub alike : AlikeAreSummedAlike
alike x y a =
    labels_same x.settings x.cells x.weights x.symbol x.labels y.labels a.labels
    ∙ ap (λ (s : Settings). symbol_sums (built s x.cells x.weights x.symbol y.labels)) a.settings
    ∙ ap (λ (c : List Cell). symbol_sums (built y.settings c x.weights x.symbol y.labels)) a.cells
    ∙ ap (λ (w : List ℕ). symbol_sums (built y.settings y.cells w x.symbol y.labels)) a.weights
    ∙ ap (λ (l : ℕ). symbol_sums (built y.settings y.cells y.weights l y.labels)) a.symbol
