-- What the lanes hold are the costs of the definition.
use Rattle.std.proofs.Common.{◌≡◌, ℕ, zero, suc, ◌/◌, ◌^◌, ◌<◌, ◌≤◌, min, Bool, true, false, cond, List, [], ◌∷◌, length, map, ◌⊎◌, inl, inr, refl, sym, ap, ap₂, ◌∙◌, subst, arith}
use Rattle.std.specs.Prelude.{ℤ, slice_index}
use Rattle.std.proofs.lemmas.Bool.{cases_lt}
use Rattle.std.proofs.lemmas.List.{get_or-map}
use Rattle.std.proofs.Math.Nat.{pow-le-pow_left}
use Rattle.mode_set.specs.Levels.{levels}
use Rattle.mode_set.specs.StreamTable.{label_bits}
use Rattle.mode_set.specs.declared.modes.Shape.{Shape}
use Rattle.mode_set.specs.declared.modes.Shape.TheVariants.{Qpsk, Qam16, Qam64}
use Rattle.mode_set.specs.declared.modes.Hierarchy.{Hierarchy}
use Rattle.mode_set.specs.declared.modes.Hierarchy.TheVariants.{Flat, Alpha1, Alpha2, Alpha4}
use Rattle.soft_metric.specs.Costs.{cost, four_levels}
use Rattle.soft_metric.specs.Squares.{scaled, near, pair_at, IsSmallPair, AreAxisCosts, lane_magnitude, lane_positive, lane_value, near_two, near_four, far_one, lane_zero, lane_one, lane_pair}
use Rattle.soft_metric.proofs.Sides.{axis_is, pairs_small}

-- ---- the square of the lesser distance is the lesser square
lesser_square : (a b : ℕ) → min a b ^ 2 ≡ min (a ^ 2) (b ^ 2)
lesser_square a b = go (cases_lt a b)
  where
    go : (a < b) ⊎ (b ≤ a) → min a b ^ 2 ≡ min (a ^ 2) (b ^ 2)
    go (inl l) = let s : a ^ 2 ≤ b ^ 2 = pow-le-pow_left (omega (arith, l)) 2 in let e : min a b ≡ a = omega (arith, l) in ap (λ z. z ^ 2) e ∙ omega (arith, s)
    go (inr l) = let s : b ^ 2 ≤ a ^ 2 = pow-le-pow_left l 2 in let e : min a b ≡ b = omega (arith, l) in ap (λ z. z ^ 2) e ∙ omega (arith, s)

module _ (ls : List ℕ) (u : ℕ) where
  two_is : (j k : ℕ) → scaled (near_two ls u j k ^ 2) ≡ scaled (min (near ls (lane_magnitude u) j) (near ls (lane_magnitude u) k))
  two_is j k = ap scaled (lesser_square _ _)

  four_is : scaled (near_four ls u ^ 2) ≡ scaled (min (min (near ls (lane_magnitude u) 0) (near ls (lane_magnitude u) 1)) (min (near ls (lane_magnitude u) 2) (near ls (lane_magnitude u) 3)))
  four_is = ap scaled (lesser_square (near_two ls u 0 1) (near_two ls u 2 3) ∙ ap₂ min (lesser_square _ _) (lesser_square _ _))

  abbrev pub three : List (ℕ × ℕ)
  three = (lane_zero ls 0 u, lane_one ls 0 u) ∷ (lane_zero ls 1 u, lane_one ls 1 u) ∷ (lane_zero ls 2 u, lane_one ls 2 u) ∷ []

  pub three_are : AreAxisCosts ls (lane_positive u) (lane_magnitude u) three
  three_are = record {
    same = same (lane_positive u) ∙ four_is;
    other = other (lane_positive u);
    outer_zero = two_is 0 1;
    outer_one = two_is 2 3;
    inner_zero = two_is 0 3;
    inner_one = two_is 1 2;
  }
    where
      same : (b : Bool) → cond b (cond b (scaled (near_four ls u ^ 2)) (scaled (far_one ls u ^ 2))) (cond b (scaled (far_one ls u ^ 2)) (scaled (near_four ls u ^ 2))) ≡ scaled (near_four ls u ^ 2)
      same true = refl
      same false = refl

      other : (b : Bool) → cond b (cond b (scaled (far_one ls u ^ 2)) (scaled (near_four ls u ^ 2))) (cond b (scaled (near_four ls u ^ 2)) (scaled (far_one ls u ^ 2))) ≡ scaled (far_one ls u ^ 2)
      other true = refl
      other false = refl

  at_axis : (a : ℕ) → a < 3 → lane_pair ls a u ≡ pair_at three a
  at_axis zero l = refl
  at_axis (suc zero) l = refl
  at_axis (suc (suc zero)) l = refl
  at_axis (suc (suc (suc a))) l = absurd (omega (arith, l))

pub three_places : (c : Shape) (e : ℕ) → e < label_bits c → e / 2 < 3
three_places Qpsk e l = omega (arith, l)
three_places Qam16 e l = omega (arith, l)
three_places Qam64 e l = omega (arith, l)

-- the costs in a lane
pub lane_is : (s : Shape) (h : Hierarchy) (ls : List ℕ) (u e : ℕ) (x : ℤ) → ls ≡ four_levels (levels s h) → lane_value u ≡ x → e < label_bits s → lane_pair ls (e / 2) u ≡ (cost s h x e false, cost s h x e true)
lane_is s h ls u e x el ex l =
    let k = subst (λ z. AreAxisCosts z (lane_positive u) (lane_magnitude u) (three ls u)) el (three_are ls u) in
    at_axis ls u (e / 2) (three_places s e l) ∙ axis_is s h x (lane_positive u) (lane_magnitude u) e (three ls u) (sym ex) k l

pub lane_small : (ls : List ℕ) (u a : ℕ) → a < 3 → IsSmallPair (lane_pair ls a u)
lane_small ls u a l = subst IsSmallPair (sym (at_axis ls u a l)) (pairs_small ls (lane_positive u) (lane_magnitude u) (three ls u) (three_are ls u) a l)

-- lane k of the costs
abbrev pub two : ℕ → ℕ → ℕ × ℕ
two z o = (z, o)

pub lane_at : (vs zs os : List ℕ) (ls : List ℕ) (a k : ℕ) → length vs ≡ 16 → k < 16 → zs ≡ map (lane_zero ls a) vs → os ≡ map (lane_one ls a) vs
    → two (slice_index zs k) (slice_index os k) ≡ lane_pair ls a (slice_index vs k)
lane_at vs zs os ls a k n l ez eo =
    let z : slice_index zs k ≡ lane_zero ls a (slice_index vs k) = ap (λ q. slice_index q k) ez ∙ get_or-map (lane_zero ls a) vs k 0 0 (omega (arith, n, l)) in
    let o : slice_index os k ≡ lane_one ls a (slice_index vs k) = ap (λ q. slice_index q k) eo ∙ get_or-map (lane_one ls a) vs k 0 0 (omega (arith, n, l)) in
    ap₂ two z o

-- no level is 0
levels_from : (a b c d k : ℕ) → 1 ≤ a → 1 ≤ b → 1 ≤ c → 1 ≤ d → k < 4 → 1 ≤ slice_index (a ∷ b ∷ c ∷ d ∷ []) k
levels_from a b c d zero p q r s l = p
levels_from a b c d (suc zero) p q r s l = q
levels_from a b c d (suc (suc zero)) p q r s l = r
levels_from a b c d (suc (suc (suc zero))) p q r s l = s
levels_from a b c d (suc (suc (suc (suc k)))) p q r s l = absurd (omega (arith, l))

table_above : (s : Shape) (h : Hierarchy) (k : ℕ) → k < 4 → 1 ≤ slice_index (four_levels (levels s h)) k
table_above Qpsk Flat k l = levels_from _ _ _ _ k (omega arith) (omega arith) (omega arith) (omega arith) l
table_above Qpsk Alpha1 k l = levels_from _ _ _ _ k (omega arith) (omega arith) (omega arith) (omega arith) l
table_above Qpsk Alpha2 k l = levels_from _ _ _ _ k (omega arith) (omega arith) (omega arith) (omega arith) l
table_above Qpsk Alpha4 k l = levels_from _ _ _ _ k (omega arith) (omega arith) (omega arith) (omega arith) l
table_above Qam16 Flat k l = levels_from _ _ _ _ k (omega arith) (omega arith) (omega arith) (omega arith) l
table_above Qam16 Alpha1 k l = levels_from _ _ _ _ k (omega arith) (omega arith) (omega arith) (omega arith) l
table_above Qam16 Alpha2 k l = levels_from _ _ _ _ k (omega arith) (omega arith) (omega arith) (omega arith) l
table_above Qam16 Alpha4 k l = levels_from _ _ _ _ k (omega arith) (omega arith) (omega arith) (omega arith) l
table_above Qam64 Flat k l = levels_from _ _ _ _ k (omega arith) (omega arith) (omega arith) (omega arith) l
table_above Qam64 Alpha1 k l = levels_from _ _ _ _ k (omega arith) (omega arith) (omega arith) (omega arith) l
table_above Qam64 Alpha2 k l = levels_from _ _ _ _ k (omega arith) (omega arith) (omega arith) (omega arith) l
table_above Qam64 Alpha4 k l = levels_from _ _ _ _ k (omega arith) (omega arith) (omega arith) (omega arith) l

pub levels_above : (s : Shape) (h : Hierarchy) (ls : List ℕ) → ls ≡ four_levels (levels s h) → (k : ℕ) → k < 4 → 1 ≤ slice_index ls k
levels_above s h ls e k l = subst (λ z. 1 ≤ slice_index z k) (sym e) (table_above s h k l)
