-- What is kept of the points of the labels, and cells near to them.
use Rattle.std.proofs.Common.{◌≡◌, ℕ, ◌+◌, ◌*◌, ◌^◌, ◌<◌, ◌≤◌, ◌≢◌, ◌⊎◌, inl, inr, Bool, true, false, not, ◌&&◌, List, length, get_or, set, refl, sym, ap, ◌∙◌, subst, arith}
use Rattle.std.specs.Bool.{beq}
use Rattle.std.proofs.Math.Nat.{pow-le-pow_left, pow-suc, pow-zero}
use Rattle.std.proofs.lemmas.Bool.{cases_lt}
use Rattle.std.proofs.lemmas.List.{length-set, get_or-set_same, get_or-set_other}
use Rattle.spec_words.specs.Bits.{is_set}
use Rattle.mode_set.specs.StreamTable.{label_bits}
use Rattle.mode_set.specs.declared.modes.Shape.{Shape}
use Rattle.mode_set.specs.declared.modes.Hierarchy.{Hierarchy}
use Rattle.mode_set.specs.declared.modes.Stream.{Stream}
use Rattle.mode_set.specs.declared.modes.Stream.TheVariants.{Hp, Lp}
use Rattle.bit_interleave.specs.Place.{stream_at}
use Rattle.qam_map.specs.Points.{distance, map_cell}
use Rattle.qam_map.specs.declared.cell.Cell.{Cell}
use Rattle.hard_decision.specs.Hard.{hard_bit}
use Rattle.measure_sums.specs.Comparing.{is_same, squared_distance}
use Rattle.measure_sums.specs.Tables.{bits_of_label, counted_bits, counted_sums}
use Rattle.measure_sums.specs.Parts.{all}
use Rattle.measure_sums.specs.Quick.{AreSent, IsPointTable, IsSafe, right_sums, sent_for}
use Rattle.measure_sums.specs.declared.sent.Sent.{Sent}
use Rattle.measure_sums.proofs.Counting.{count_none}

-- ---- one label more

pub sent_more : (s : Shape) (h : Hierarchy) (n : ℕ) (all : List Sent) (sent : Sent) → n < 64 → AreSent s h n all → sent ≡ sent_for s h n → sent.power ≤ 2 ^ 31 → AreSent s h (n + 1) (set all n sent)
sent_more s h n all sent l a e few = record { long = length-set _ _ _ ∙ a.long; at = at; few = little }
  where
    here : (label : ℕ) (d : Sent) → label < n + 1 → n ≤ label → get_or (set all n sent) label d ≡ sent
    here label d k m =
        let same : n ≡ label = omega (arith, m, k) in
        let within : n < length all = omega (arith, l, a.long) in
        ap (λ (z : ℕ). get_or (set all n sent) z d) (sym same) ∙ get_or-set_same all n sent d within

    before : (label : ℕ) (d : Sent) → label < n → get_or (set all n sent) label d ≡ get_or all label d
    before label d m = let other : label ≢ n = omega (arith, m) in get_or-set_other all n label sent d other

    at : (label : ℕ) (d : Sent) → label < n + 1 → get_or (set all n sent) label d ≡ sent_for s h label
    at label d k = go (cases_lt label n)
      where
        go : (label < n) ⊎ (n ≤ label) → get_or (set all n sent) label d ≡ sent_for s h label
        go (inl m) = before label d m ∙ a.at label d m
        go (inr m) = let same : n ≡ label = omega (arith, m, k) in here label d k m ∙ e ∙ ap (sent_for s h) same

    little : (label : ℕ) (d : Sent) → label < n + 1 → (get_or (set all n sent) label d).power ≤ 2 ^ 31
    little label d k = go (cases_lt label n)
      where
        go : (label < n) ⊎ (n ≤ label) → (get_or (set all n sent) label d).power ≤ 2 ^ 31
        go (inl m) = subst (λ (z : Sent). z.power ≤ 2 ^ 31) (sym (before label d m)) (a.few label d m)
        go (inr m) = subst (λ (z : Sent). z.power ≤ 2 ^ 31) (sym (here label d k m)) few

-- ---- squared distances

one : (a : ℕ) → a ^ 1 ≡ a
one a = pow-suc a 0 ∙ ap (λ (z : ℕ). z * a) (pow-zero a) ∙ (omega arith)

square : (a : ℕ) → a ^ 2 ≡ a * a
square a = pow-suc a 1 ∙ ap (λ (z : ℕ). z * a) (one a)

lesser_root : (a r : ℕ) → a ^ 2 < r * r → a < r
lesser_root a r l = go (cases_lt a r)
  where
    go : (a < r) ⊎ (r ≤ a) → a < r
    go (inl k) = k
    go (inr k) = absurd (omega (arith, l, pow-le-pow_left k 2, square r))

left_part : (x y n : ℕ) → x + y < n → x < n
left_part x y n l = omega (arith, l)

right_part : (x y n : ℕ) → x + y < n → y < n
right_part x y n l = omega (arith, l)

abbrev Decides : Shape × Hierarchy → ℕ → Type 0
Decides v r = (label e : ℕ) (cell : Cell) → e < label_bits v.0 → distance cell.re (map_cell v.0 v.1 (is_set label)).re < r → distance cell.im (map_cell v.0 v.1 (is_set label)).im < r → hard_bit v.0 v.1 cell e ≡ is_set label e

pub safe_square : (s : Shape) (h : Hierarchy) (v : Shape × Hierarchy) (r : ℕ) → v ≡ (s, h) → Decides v r → IsSafe s h (r * r)
safe_square s h v r ev decides label e c near few =
    let at : Decides (s, h) r = subst (λ (z : Shape × Hierarchy). Decides z r) ev decides in
    let point : Cell = map_cell s h (is_set label) in
    at label e c few
    (lesser_root (distance c.re point.re) r (left_part (distance c.re point.re ^ 2) (distance c.im point.im ^ 2) (r * r) near))
    (lesser_root (distance c.im point.im) r (right_part (distance c.re point.re ^ 2) (distance c.im point.im ^ 2) (r * r) near))

-- ---- a place without a wrong bit

no_difference : (b c d : Bool) → c ≡ d → (b && not (beq c d)) ≡ false
no_difference true true d e = cc
no_difference true false d e = cc
no_difference false c d e = refl

none_wrong : (s : Shape) (h : Hierarchy) (safe label : ℕ) (c : Cell) (σ : Stream) → IsSafe s h safe → squared_distance c (map_cell s h (is_set label)) < safe → 0 ≡ (counted_bits s h label c σ).wrong
none_wrong s h safe label c σ is near =
    sym (count_none (λ e. is_same (stream_at h e) σ && not (beq (hard_bit s h c e) (is_set label e))) (label_bits s)
    (λ k l. no_difference (is_same (stream_at h k) σ) (hard_bit s h c k) (is_set label k) (is label k c near l)))

right_same : (p e hb hw lb lw p1 e1 hb1 hw1 lb1 lw1 : ℕ) → p ≡ p1 → e ≡ e1 → hb ≡ hb1 → hw ≡ hw1 → lb ≡ lb1 → lw ≡ lw1 → all 1 0 p e hb hw lb lw ≡ all 1 0 p1 e1 hb1 hw1 lb1 lw1
right_same p e hb hw lb lw p1 e1 hb1 hw1 lb1 lw1 a b c d f g = cc

-- the sums of a cell that is near to the point of its label
pub near_is : (s : Shape) (h : Hierarchy) (sent : List Sent) (hb lb safe label error : ℕ) (c : Cell) (d : Sent) → IsPointTable s h sent hb lb safe → label < 2 ^ label_bits s
    → error ≡ squared_distance c (get_or sent label d).point → error < safe → right_sums s h (get_or sent label d).power error ≡ counted_sums s h label c
near_is s h sent hb lb safe label error c d t l e near =
    let here : get_or sent label d ≡ sent_for s h label = t.sent_are.at label d l in
    let apart : error ≡ squared_distance c (map_cell s h (is_set label)) = e ∙ ap (λ (z : Sent). squared_distance c z.point) here in
    let close : squared_distance c (map_cell s h (is_set label)) < safe = subst (λ (z : ℕ). z < safe) apart near in
    right_same _ _ _ _ _ _ _ _ _ _ _ _ (ap (λ (z : Sent). z.power) here) apart refl (none_wrong s h safe label c Hp t.safe_is close) refl (none_wrong s h safe label c Lp t.safe_is close)

-- what the parts of a new table are, seen as what its constellation is seen as
pub table_is : (s : Shape) (h : Hierarchy) (v : Shape × Hierarchy) (all : List Sent) (hb lb safe : ℕ) → v ≡ (s, h) → AreSent s h (2 ^ label_bits s) all → hb ≡ bits_of_label s h Hp → hb ≤ 6 → lb ≡ bits_of_label s h Lp → lb ≤ 6 → IsSafe s h safe
    → IsPointTable v.0 v.1 all hb lb safe
table_is s h v all hb lb safe ev sent eh fh el fl near =
    subst (λ (z : Shape × Hierarchy). IsPointTable z.0 z.1 all hb lb safe) (sym ev) (record { sent_are = sent; hp_are = eh; lp_are = el; hp_few = fh; lp_few = fl; safe_is = near })
