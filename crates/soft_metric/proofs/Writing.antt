-- Weighted costs written into the list of all places.
use Rattle.std.proofs.Common.{◌≡◌, ℕ, ◌+◌, ◌-◌, ◌*◌, ◌/◌, ◌%◌, ◌<◌, ◌≤◌, ◌⊎◌, inl, inr, List, length, refl, sym, ap, ap₂, ◌∙◌, subst, arith}
use Rattle.std.specs.Prelude.{ℤ, pos, slice_index, slice_index_or, slice_set, if◌then◌else◌, ◌==◌}
use Rattle.std.proofs.lemmas.Bool.{cases_lt}
use Rattle.std.proofs.lemmas.List.{get_or-set_same, get_or-set_other, length-set}
use Rattle.std.proofs.Math.Nat.{mul-le-mul_right, min-le_left}
use Rattle.mode_set.specs.Levels.{levels}
use Rattle.mode_set.specs.StreamTable.{label_bits}
use Rattle.mode_set.specs.declared.modes.Shape.{Shape}
use Rattle.mode_set.specs.declared.modes.Shape.TheVariants.{Qpsk, Qam16, Qam64}
use Rattle.mode_set.specs.declared.modes.Hierarchy.{Hierarchy}
use Rattle.qam_map.specs.Points.{on_axis}
use Rattle.qam_map.specs.declared.cell.Cell.{Cell}
use Rattle.soft_metric.specs.Costs.{cost, costs_at_place, four_levels}
use Rattle.soft_metric.specs.Squares.{IsSmallPair, pair_at, lane_pair, lane_value}
use Rattle.soft_metric.specs.Weights.{weighted, weighted_is_small}
use Rattle.soft_metric.specs.Planes.{IsWrittenAt, WritesCosts}
use Rattle.soft_metric.proofs.Lanes16.{lane_is}

costs_are_small : (s : Shape) (h : Hierarchy) (cell : Cell) (e : ℕ) → IsSmallPair (costs_at_place s h cell e)
unfolding cost
costs_are_small s h cell e = (min-le_left _ _, min-le_left _ _)

-- the numbers of place e end before those of the next one, and within the list
pub plane_ends : (n e f q count : ℕ) → e < f → q + count ≤ n → e * n + q + count ≤ f * n
plane_ends n e f q count l within = let r : (e + 1) * n ≤ f * n = mul-le-mul_right n (omega (arith, l)) in omega (arith, r, within)

-- a label has 2, 4 or 6 bits
pub label_is_even : (s : Shape) → (2 ≤ label_bits s) × ((label_bits s ≤ 6) × (label_bits s % 2 ≡ 0))
label_is_even Qpsk = (omega arith, (omega arith, refl))
label_is_even Qam16 = (omega arith, (omega arith, refl))
label_is_even Qam64 = (omega arith, (omega arith, refl))

module _ (s : Shape) (h : Hierarchy) (cells : List Cell) (weights : List ℕ) where
  pub nothing_written : (costs : List (ℕ × ℕ)) → WritesCosts s h cells weights costs costs
  nothing_written costs = record { long = refl; kept = λ e k l m was. was; small = λ i was. was; rest = λ i l. refl }

  pub then_written : (old mid new : List (ℕ × ℕ)) → WritesCosts s h cells weights old mid → WritesCosts s h cells weights mid new → WritesCosts s h cells weights old new
  then_written old mid new a b = record {
    long = b.long ∙ a.long;
    kept = λ e k l m was. b.kept e k l m (a.kept e k l m was);
    small = λ i was. b.small i (a.small i was);
    rest = λ i l. b.rest i l ∙ a.rest i l;
  }

  -- costs of so many cells from number q on are put at place e
  pub record Put (e q count first : ℕ) (old new : List (ℕ × ℕ)) : Type 0 where
    pub is : first ≡ e * length cells + q
    pub place : e < label_bits s
    pub within : q + count ≤ length cells
    pub light : (k : ℕ) → k < length cells → slice_index weights k ≤ 15
    pub long : length new ≡ length old
    pub here : (j : ℕ) (d : Cell) → j < count → pair_at new (first + j) ≡ weighted (costs_at_place s h (slice_index_or cells (q + j) d) e) (slice_index weights (q + j))
    pub below : (k : ℕ) → k < first → pair_at new k ≡ pair_at old k
    pub above : (k : ℕ) → first + count ≤ k → pair_at new k ≡ pair_at old k

  module _ (e q count first : ℕ) (old new : List (ℕ × ℕ)) (p : Put e q count first old new) where
    pub put_here : (k : ℕ) → q ≤ k → k < q + count → IsWrittenAt s h cells weights new e k
    put_here k from to d =
        let j : ℕ = k - q in
        let less : j < count = omega (arith, from, to) in
        let place : first + j ≡ e * length cells + k = omega (arith, from, p.is) in
        let cell : q + j ≡ k = omega (arith, from) in
        ap (pair_at new) (sym place) ∙ p.here j d less ∙ ap (λ (z : ℕ). weighted (costs_at_place s h (slice_index_or cells z d) e) (slice_index weights z)) cell

    kept_below : (f k : ℕ) → f * length cells + k < first → IsWrittenAt s h cells weights old f k → IsWrittenAt s h cells weights new f k
    kept_below f k l was d = p.below (f * length cells + k) l ∙ was d

    kept_above : (f k : ℕ) → first + count ≤ f * length cells + k → IsWrittenAt s h cells weights old f k → IsWrittenAt s h cells weights new f k
    kept_above f k l was d = p.above (f * length cells + k) l ∙ was d

    kept_at : (k : ℕ) → k < length cells → IsWrittenAt s h cells weights old e k → IsWrittenAt s h cells weights new e k
    kept_at k l was = go (cases_lt k q) (cases_lt k (q + count))
      where
        go : (k < q) ⊎ (q ≤ k) → (k < q + count) ⊎ (q + count ≤ k) → IsWrittenAt s h cells weights new e k
        go (inl less) b = kept_below e k (omega (arith, less, p.is)) was
        go (inr from) (inl to) = put_here k from to
        go (inr from) (inr past) = kept_above e k (omega (arith, past, p.is)) was

    pub put_writes : WritesCosts s h cells weights old new
    put_writes = record { long = p.long; kept = kept; small = small; rest = λ i l. p.above i (omega (arith, plane_ends (length cells) e (label_bits s) q count p.place p.within, p.is, l)) }
      where
        kept : (f k : ℕ) → f < label_bits s → k < length cells → IsWrittenAt s h cells weights old f k → IsWrittenAt s h cells weights new f k
        kept f k l m was = go (cases_lt f e) (cases_lt e f)
          where
            go : (f < e) ⊎ (e ≤ f) → (e < f) ⊎ (f ≤ e) → IsWrittenAt s h cells weights new f k
            go (inl less) b = kept_below f k (omega (arith, plane_ends (length cells) f e k 1 less (omega (arith, m)), p.is)) was
            go (inr a) (inl more) = kept_above f k (omega (arith, plane_ends (length cells) e f q count more p.within, p.is)) was
            go (inr a) (inr b) = let same : e ≡ f = omega (arith, a, b) in subst (λ (z : ℕ). IsWrittenAt s h cells weights old z k → IsWrittenAt s h cells weights new z k) same (kept_at k m) was

        small : (i : ℕ) → IsSmallPair (pair_at old i) → IsSmallPair (pair_at new i)
        small i was = go (cases_lt i first) (cases_lt i (first + count))
          where
            go : (i < first) ⊎ (first ≤ i) → (i < first + count) ⊎ (first + count ≤ i) → IsSmallPair (pair_at new i)
            go (inl less) b = subst IsSmallPair (sym (p.below i less)) was
            go (inr from) (inl to) =
                let j : ℕ = i - first in
                let less : j < count = omega (arith, from, to) in
                let place : first + j ≡ i = omega (arith, from) in
                let d : Cell = record { re = pos 0; im = pos 0 } in
                let c : Cell = slice_index_or cells (q + j) d in
                subst IsSmallPair (ap (pair_at new) place) (subst IsSmallPair (sym (p.here j d less)) (weighted_is_small (costs_at_place s h c e) (slice_index weights (q + j)) (costs_are_small s h c e) (p.light (q + j) (omega (arith, less, p.within)))))
            go (inr from) (inr past) = subst IsSmallPair (sym (p.above i past)) was

  -- places of one axis so far, and one more
  pub side_more : (e q side : ℕ) (old new : List (ℕ × ℕ)) → WritesCosts s h cells weights old new → e < label_bits s → q + 16 ≤ length cells
      → ((f k : ℕ) → f < e → f % 2 ≡ side → q ≤ k → k < q + 16 → IsWrittenAt s h cells weights old f k) → e % 2 ≡ side → ((k : ℕ) → q ≤ k → k < q + 16 → IsWrittenAt s h cells weights new e k)
      → (f k : ℕ) → f < e + 2 → f % 2 ≡ side → q ≤ k → k < q + 16 → IsWrittenAt s h cells weights new f k
  side_more e q side old new w place within before even here f k l m from to = go (cases_lt f e)
    where
      go : (f < e) ⊎ (e ≤ f) → IsWrittenAt s h cells weights new f k
      go (inl less) = w.kept f k (omega (arith, less, place)) (omega (arith, to, within)) (before f k less m from to)
      go (inr more) = let same : e ≡ f = omega (arith, more, l, m, even) in subst (λ (z : ℕ). IsWrittenAt s h cells weights new z k) same (here k from to)

  -- no place of the axis stands before the first one
  pub side_first : (q side : ℕ) (new : List (ℕ × ℕ)) → side < 2 → ((k : ℕ) → q ≤ k → k < q + 16 → IsWrittenAt s h cells weights new side k)
      → (f k : ℕ) → f < side + 2 → f % 2 ≡ side → q ≤ k → k < q + 16 → IsWrittenAt s h cells weights new f k
  side_first q side new two here f k l m from to = let same : side ≡ f = omega (arith, l, m, two) in subst (λ (z : ℕ). IsWrittenAt s h cells weights new z k) same (here k from to)

  -- the costs of one more cell, and of those before it
  pub cells_more : (q count : ℕ) (old new : List (ℕ × ℕ)) → q + count ≤ length cells → WritesCosts s h cells weights old new → ((k e : ℕ) → k < q → e < label_bits s → IsWrittenAt s h cells weights old e k)
      → ((e k : ℕ) → e < label_bits s → q ≤ k → k < q + count → IsWrittenAt s h cells weights new e k) → (k e : ℕ) → k < q + count → e < label_bits s → IsWrittenAt s h cells weights new e k
  cells_more q count old new within w before here k e l m = go (cases_lt k q)
    where
      go : (k < q) ⊎ (q ≤ k) → IsWrittenAt s h cells weights new e k
      go (inl less) = w.kept e k m (omega (arith, l, within)) (before k e less m)
      go (inr from) = here e k m from l

  -- what the lanes hold are the costs at the place
  same_axis : (c : Cell) (e f : ℕ) → e % 2 ≡ f % 2 → on_axis c e ≡ on_axis c f
  same_axis c e f same = ap (λ (z : ℕ). if z == 0 then c.re else c.im) same

  pub lanes_put : (ls vs ws : List ℕ) (e q first : ℕ) (old new : List (ℕ × ℕ)) → ls ≡ four_levels (levels s h) → first ≡ e * length cells + q → e < label_bits s → q + 16 ≤ length cells
      → ((k : ℕ) → k < length cells → slice_index weights k ≤ 15)
      → ((j : ℕ) (d : Cell) → j < 16 → lane_value (slice_index vs j) ≡ on_axis (slice_index_or cells (q + j) d) (e % 2)) → ((j : ℕ) → j < 16 → slice_index ws j ≡ slice_index weights (q + j))
      → length new ≡ length old → ((j : ℕ) → j < 16 → pair_at new (first + j) ≡ weighted (lane_pair ls (e / 2) (slice_index vs j)) (slice_index ws j))
      → ((k : ℕ) → k < first → pair_at new k ≡ pair_at old k) → ((k : ℕ) → first + 16 ≤ k → pair_at new k ≡ pair_at old k) → Put e q 16 first old new
  lanes_put ls vs ws e q first old new el is place within light ev ew long here below above = record {
    is = is;
    place = place;
    within = within;
    light = light;
    long = long;
    here = there;
    below = below;
    above = above;
  }
    where
      there : (j : ℕ) (d : Cell) → j < 16 → pair_at new (first + j) ≡ weighted (costs_at_place s h (slice_index_or cells (q + j) d) e) (slice_index weights (q + j))
      there j d l =
          let x : ℤ = on_axis (slice_index_or cells (q + j) d) e in
          let same : (e % 2) % 2 ≡ e % 2 = omega arith in
          let value : lane_value (slice_index vs j) ≡ x = ev j d l ∙ same_axis (slice_index_or cells (q + j) d) (e % 2) e same in
          let costs : lane_pair ls (e / 2) (slice_index vs j) ≡ costs_at_place s h (slice_index_or cells (q + j) d) e = lane_is s h ls (slice_index vs j) e x el value place in
          here j l ∙ ap₂ weighted costs (ew j l)

  -- one pair is put
  pub one_put : (e q first : ℕ) (pair : ℕ × ℕ) (old : List (ℕ × ℕ)) → first ≡ e * length cells + q → e < label_bits s → q < length cells → ((k : ℕ) → k < length cells → slice_index weights k ≤ 15) → label_bits s * length cells ≤ length old
      → ((d : Cell) → pair ≡ weighted (costs_at_place s h (slice_index_or cells q d) e) (slice_index weights q)) → Put e q 1 first old (slice_set old first pair)
  one_put e q first pair old is place within light room right = record {
    is = is;
    place = place;
    within = omega (arith, within);
    light = light;
    long = length-set old first pair;
    here = here;
    below = λ k l. get_or-set_other old first k pair (0, 0) (λ same. absurd (omega (arith, l, same)));
    above = λ k l. get_or-set_other old first k pair (0, 0) (λ same. absurd (omega (arith, l, same)));
  }
    where
      fits : first < length old
      fits = omega (arith, plane_ends (length cells) e (label_bits s) q 1 place (omega (arith, within)), is, room)

      here : (j : ℕ) (d : Cell) → j < 1 → pair_at (slice_set old first pair) (first + j) ≡ weighted (costs_at_place s h (slice_index_or cells (q + j) d) e) (slice_index weights (q + j))
      here j d l =
          let none : 0 ≡ j = omega (arith, l) in
          let first_is : first ≡ first + 0 = omega arith in
          let q_is : q ≡ q + 0 = omega arith in
          subst (λ (z : ℕ). pair_at (slice_set old first pair) (first + z) ≡ weighted (costs_at_place s h (slice_index_or cells (q + z) d) e) (slice_index weights (q + z))) none
          (ap (pair_at (slice_set old first pair)) (sym first_is) ∙ get_or-set_same old first pair (0, 0) fits ∙ right d ∙ ap (λ (z : ℕ). weighted (costs_at_place s h (slice_index_or cells z d) e) (slice_index weights z)) q_is)

  pub one_cell : (q : ℕ) (new : List (ℕ × ℕ)) → ((e : ℕ) → e < label_bits s → IsWrittenAt s h cells weights new e q) → (e k : ℕ) → e < label_bits s → q ≤ k → k < q + 1 → IsWrittenAt s h cells weights new e k
  one_cell q new here e k l from to = let same : q ≡ k = omega (arith, from, to) in subst (λ (z : ℕ). IsWrittenAt s h cells weights new e z) same (here e l)

  -- the places of one cell so far, and this one
  pub one_more : (e q first : ℕ) (old new : List (ℕ × ℕ)) → Put e q 1 first old new → ((f : ℕ) → f < e → IsWrittenAt s h cells weights old f q) → (f : ℕ) → f < e + 1 → IsWrittenAt s h cells weights new f q
  one_more e q first old new p before f l = go (cases_lt f e)
    where
      go : (f < e) ⊎ (e ≤ f) → IsWrittenAt s h cells weights new f q
      go (inl less) = (put_writes e q 1 first old new p).kept f q (omega (arith, less, p.place)) (omega (arith, p.within)) (before f less)
      go (inr more) = let same : e ≡ f = omega (arith, l, more) in subst (λ (z : ℕ). IsWrittenAt s h cells weights new z q) same (put_here e q 1 first old new p q (omega arith) (omega arith))
