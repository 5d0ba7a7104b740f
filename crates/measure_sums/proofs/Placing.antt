-- What one payload place adds.
use Rattle.std.proofs.Common.{◌≡◌, ℕ, zero, suc, ◌+◌, ◌^◌, ◌<◌, ◌≤◌, ◌≢◌, ◌⊎◌, inl, inr, Bool, true, false, not, ◌&&◌, List, [], ◌∷◌, length, get_or, set, refl, sym, ap, ◌∙◌, subst, arith}
use Rattle.std.specs.Prelude.{count_by}
use Rattle.std.specs.Bool.{beq}
use lib.Pointwise.{pointwise}
use Rattle.std.proofs.lemmas.Bool.{cases_lt}
use Rattle.std.proofs.lemmas.List.{length-set, get_or-set_same, get_or-set_other}
use Rattle.spec_words.specs.Words.{numbers}
use Rattle.spec_words.specs.Bits.{is_set}
use Rattle.mode_set.specs.StreamTable.{label_bits}
use Rattle.mode_set.specs.declared.modes.Shape.{Shape}
use Rattle.mode_set.specs.declared.modes.Shape.TheVariants.{Qpsk, Qam16, Qam64}
use Rattle.mode_set.specs.declared.modes.Hierarchy.{Hierarchy}
use Rattle.mode_set.specs.declared.modes.Stream.{Stream}
use Rattle.mode_set.specs.declared.modes.Stream.TheVariants.{Hp, Lp}
use Rattle.bit_interleave.specs.Place.{stream_at}
use Rattle.qam_map.specs.Points.{map_cell}
use Rattle.qam_map.specs.declared.cell.Cell.{Cell}
use Rattle.hard_decision.specs.Hard.{axis_bit, hard_bit}
use Rattle.measure_sums.specs.Comparing.{is_same, power_of, squared_distance}
use Rattle.measure_sums.specs.Tables.{ArePoints, bits_of_label, wrong_among, counted_bits, counted_sums}
use Rattle.measure_report.specs.declared.sums.SymbolSums.{SymbolSums}
use Rattle.measure_sums.proofs.Counting.{none_wrong, wrong_same}

pub six : (s : Shape) → label_bits s ≤ 6
six Qpsk = omega arith
six Qam16 = omega arith
six Qam64 = omega arith

-- the two axes by turns
pub by_turns : (d : Shape × Hierarchy) (cell : Cell) (re im : List Bool) → ((i : ℕ) → i < 3 → get_or re i false ≡ axis_bit d.0 d.1 cell.re i) → ((i : ℕ) → i < 3 → get_or im i false ≡ axis_bit d.0 d.1 cell.im i)
    → (e : ℕ) → e < 6 → get_or (get_or re 0 false ∷ get_or im 0 false ∷ get_or re 1 false ∷ get_or im 1 false ∷ get_or re 2 false ∷ get_or im 2 false ∷ []) e false ≡ hard_bit d.0 d.1 cell e
unfolding hard_bit
by_turns d cell re im r i zero l = r 0 (omega arith)
by_turns d cell re im r i (suc zero) l = i 0 (omega arith)
by_turns d cell re im r i (suc (suc zero)) l = r 1 (omega arith)
by_turns d cell re im r i (suc (suc (suc zero))) l = i 1 (omega arith)
by_turns d cell re im r i (suc (suc (suc (suc zero)))) l = r 2 (omega arith)
by_turns d cell re im r i (suc (suc (suc (suc (suc zero))))) l = i 2 (omega arith)
by_turns d cell re im r i (suc (suc (suc (suc (suc (suc e)))))) l = absurd (omega (arith, l))

pub six_bits : (label : ℕ) (a b c d e f : Bool) → a ≡ is_set label 0 → b ≡ is_set label 1 → c ≡ is_set label 2 → d ≡ is_set label 3 → e ≡ is_set label 4 → f ≡ is_set label 5
    → (k : ℕ) → k < 6 → get_or (a ∷ b ∷ c ∷ d ∷ e ∷ f ∷ []) k false ≡ is_set label k
six_bits label a b c d e f p q r s t u zero l = p
six_bits label a b c d e f p q r s t u (suc zero) l = q
six_bits label a b c d e f p q r s t u (suc (suc zero)) l = r
six_bits label a b c d e f p q r s t u (suc (suc (suc zero))) l = s
six_bits label a b c d e f p q r s t u (suc (suc (suc (suc zero)))) l = t
six_bits label a b c d e f p q r s t u (suc (suc (suc (suc (suc zero))))) l = u
six_bits label a b c d e f p q r s t u (suc (suc (suc (suc (suc (suc k)))))) l = absurd (omega (arith, l))

-- lists that are compared place by place
pub equal : (v w : List Bool) → pointwise beq v w ≡ true → v ≡ w
equal [] [] e = refl
equal [] (y ∷ w) e = cc
equal (x ∷ v) [] e = cc
equal (true ∷ v) (true ∷ w) e = ap (λ zs. true ∷ zs) (equal v w e)
equal (false ∷ v) (false ∷ w) e = ap (λ zs. false ∷ zs) (equal v w e)
equal (true ∷ v) (false ∷ w) e = cc
equal (false ∷ v) (true ∷ w) e = cc

-- ---- wrong bits

module _ (s : Shape) (h : Hierarchy) (d v : Shape × Hierarchy) (label : ℕ) (c : Cell) (hard sent : List Bool) (ed : d ≡ (s, h)) (ev : (s, h) ≡ v)
    (hu : (e : ℕ) → e < 6 → get_or hard e false ≡ hard_bit d.0 d.1 c e) (hv : (e : ℕ) → e < 6 → get_or sent e false ≡ is_set label e) where
  pub wrong_is : (σ : Stream) (n : ℕ) → n ≡ wrong_among s h σ hard sent → n ≡ (counted_bits v.0 v.1 label c σ).wrong
  wrong_is σ n e =
      e
      ∙ wrong_same (λ k. is_same (stream_at h k) σ) (λ k. hard_bit d.0 d.1 c k) (is_set label) hard sent (label_bits s) (six s) hu hv
      ∙ ap (λ (z : Shape × Hierarchy). count_by (λ k. is_same (stream_at h k) σ && not (beq (hard_bit z.0 z.1 c k) (is_set label k))) (numbers (label_bits s))) ed
      ∙ ap (λ (z : Shape × Hierarchy). (counted_bits z.0 z.1 label c σ).wrong) ev

  pub right_is : (σ : Stream) → hard ≡ sent → 0 ≡ (counted_bits v.0 v.1 label c σ).wrong
  right_is σ e = wrong_is σ 0 (none_wrong (λ k. is_same (stream_at h k) σ) hard sent (label_bits s) e)

-- ---- a place that counts

abbrev made : ℕ → ℕ → ℕ → ℕ → ℕ → ℕ → SymbolSums
made p e hb hw lb lw = record { cells = 1; muted = 0; power = p; error = e; hp = record { bits = hb; wrong = hw }; lp = record { bits = lb; wrong = lw } }

made_same : (p e hb hw lb lw p1 e1 hb1 hw1 lb1 lw1 : ℕ) → p ≡ p1 → e ≡ e1 → hb ≡ hb1 → hw ≡ hw1 → lb ≡ lb1 → lw ≡ lw1 → made p e hb hw lb lw ≡ made p1 e1 hb1 hw1 lb1 lw1
made_same p e hb hw lb lw p1 e1 hb1 hw1 lb1 lw1 a b c d f g = cc

pub counted_is : (s : Shape) (h : Hierarchy) (v : Shape × Hierarchy) (label : ℕ) (c point : Cell) (p e hb hw lb lw : ℕ) → (s, h) ≡ v → point ≡ map_cell s h (is_set label) → p ≡ power_of point → e ≡ squared_distance c point
    → hb ≡ bits_of_label s h Hp → lb ≡ bits_of_label s h Lp → hw ≡ (counted_bits v.0 v.1 label c Hp).wrong → lw ≡ (counted_bits v.0 v.1 label c Lp).wrong
    → made p e hb hw lb lw ≡ counted_sums v.0 v.1 label c
counted_is s h v label c point p e hb hw lb lw ev epoint ep ee ehb elb ehw elw =
    made_same p e hb hw lb lw _ _ _ _ _ _
    (ep ∙ ap power_of epoint ∙ ap (λ (z : Shape × Hierarchy). power_of (map_cell z.0 z.1 (is_set label))) ev)
    (ee ∙ ap (squared_distance c) epoint ∙ ap (λ (z : Shape × Hierarchy). squared_distance c (map_cell z.0 z.1 (is_set label))) ev)
    (ehb ∙ ap (λ (z : Shape × Hierarchy). bits_of_label z.0 z.1 Hp) ev) ehw
    (elb ∙ ap (λ (z : Shape × Hierarchy). bits_of_label z.0 z.1 Lp) ev) elw

-- the point that is looked up
pub point_is : (s : Shape) (h : Hierarchy) (v : Shape × Hierarchy) (points : List Cell) (label : ℕ) (d : Cell) → ArePoints s h (2 ^ label_bits s) points → (s, h) ≡ v → label < 2 ^ label_bits v.0 → get_or points label d ≡ map_cell s h (is_set label)
point_is s h v points label d a ev l = a.at label d (subst (λ (z : Shape × Hierarchy). label < 2 ^ label_bits z.0) (sym ev) l)

-- ---- points

pub points_more : (s : Shape) (h : Hierarchy) (n : ℕ) (points : List Cell) (cell : Cell) → n < 64 → ArePoints s h n points → cell ≡ map_cell s h (is_set n) → ArePoints s h (n + 1) (set points n cell)
points_more s h n points cell l a e = record { long = length-set _ _ _ ∙ a.long; at = at }
  where
    at : (label : ℕ) (d : Cell) → label < n + 1 → get_or (set points n cell) label d ≡ map_cell s h (is_set label)
    at label d k = go (cases_lt label n)
      where
        go : (label < n) ⊎ (n ≤ label) → get_or (set points n cell) label d ≡ map_cell s h (is_set label)
        go (inl m) = let other : label ≢ n = omega (arith, m) in get_or-set_other points n label cell d other ∙ a.at label d m
        go (inr m) =
            let same : n ≡ label = omega (arith, m, k) in
            let within : n < length points = omega (arith, l, a.long) in
            subst (λ (z : ℕ). get_or (set points n cell) z d ≡ map_cell s h (is_set z)) same (get_or-set_same points n cell d within ∙ e)
