-- Least totals to each state less a number.
use Rattle.std.proofs.Common.{◌≡◌, ℕ, zero, suc, ◌+◌, ◌-◌, ◌*◌, ◌/◌, ◌%◌, ◌^◌, ◌<◌, ◌≤◌, min, Bool, true, false, List, [], ◌∷◌, ◌++◌, length, take, drop, ◌⊎◌, inl, inr, refl, sym, ap, ap₂, ◌∙◌, subst, arith, length-append, length-drop, length-take-le, slice_index, get_or}
use Rattle.std.specs.Int.{abs_diff}
use Rattle.std.proofs.lemmas.Bool.{cases_lt}
use Rattle.std.proofs.lemmas.List.{drop_at, get_or-take}
use Rattle.std.specs.declared.option.Option.TheVariants.{None}
use Rattle.spec_words.specs.Bits.{bit}
use Rattle.code_paths.specs.declared.costs.CostPair.{CostPair}
use Rattle.code_paths.specs.Paths.{step_cost, total}
use Rattle.code_paths.specs.States.{register}
use Rattle.code_paths.specs.Trial.{weight}
use Rattle.inner_decoder.specs.declared.decoder.StartState.TheVariants.{Any}
use Rattle.acs_lanes.specs.Lanes.{AreStepCosts, cost_from}
use Rattle.acs_lanes.specs.Lanes16.{AreClose, AreLowered, joined}
use Rattle.acs_lanes.specs.Totals.{IsForward}
use Rattle.acs_lanes.proofs.Quarters.{a_at, b_at, c_at, d_at}
use Rattle.acs_lanes.proofs.LaneLaws.{from_small}
use Rattle.bit_margin.specs.Sums.{with_start, LeastInto, AreForward, AreStartCosts, AreLowForward, raised}
use Rattle.bit_margin.proofs.Backward.{step_small, total_small}
use Rattle.bit_margin.proofs.Forward.{forward_more, forward_none, weight_start}
use Rattle.bit_margin.proofs.LowSums.{raised_at}

-- ---- how far sums are apart

-- two paths that are the same but for their last six bits
total_until : (c : List CostPair) (p q : List Bool) → length p ≡ 6 + length c → length q ≡ 6 + length c → take (length c) p ≡ take (length c) q → total c q ≤ total c p + 49140
total_until [] p q l m e = omega arith
total_until (x ∷ c) [] q l m e = absurd (omega (arith, l))
total_until (x ∷ c) (a ∷ p) [] l m e = absurd (omega (arith, m))
total_until (x ∷ c) (a ∷ p) (b ∷ q) l m e = go (total_until c p q (omega (arith, l)) (omega (arith, m)) (ap (drop 1) e)) (cases_lt (length c) 6)
  where
    same : 6 ≤ length c → (k : ℕ) → k < 7 → bit (b ∷ q) k ≡ bit (a ∷ p) k
    same long k h = sym (get_or-take (suc (length c)) (b ∷ q) k false (omega (arith, long, h))) ∙ sym (ap (λ z. get_or z k false) e) ∙ get_or-take (suc (length c)) (a ∷ p) k false (omega (arith, long, h))

    step : 6 ≤ length c → step_cost x (b ∷ q) ≡ step_cost x (a ∷ p)
    step long =
        let f = same long in
        rw (f 6 (omega arith), f 5 (omega arith), f 4 (omega arith), f 3 (omega arith), f 1 (omega arith), f 0 (omega arith))

    go : total c q ≤ total c p + 49140 → (length c < 6) ⊎ (6 ≤ length c) → total (x ∷ c) (b ∷ q) ≤ total (x ∷ c) (a ∷ p) + 49140
    go r (inl h) = omega (arith, total_small (x ∷ c) (b ∷ q), h)
    go r (inr h) = omega (arith, step h, r)

pub forward_close : (first : List ℕ) (c : List CostPair) (sums : List ℕ) → AreStartCosts Any first → AreForward first c sums → (m n : ℕ) → m < 64 → n < 64 → slice_index sums m ≤ slice_index sums n + 49140
forward_close first c sums s h m n k l =
    let g = h n l in
    let front = take (length c) g.path in
    let q = front ++ register m in
    let six : length (register m) ≡ 6 = refl in
    let front_long : length front ≡ length c = length-take-le (length c) g.path (omega (arith, g.is_path.long)) in
    let long : length q ≡ 6 + length c = omega (arith, length-append front (register m), six, front_long) in
    let ends : drop (length c) q ≡ register m = drop_at front (register m) (length c) front_long in
    let same : take (length c) g.path ≡ take (length c) q = sym (ap (λ z. take z q) (sym front_long) ∙ take_front front (register m)) in
    let mine : slice_index first (weight (take 6 q)) ≡ 0 = s (weight (take 6 q)) (weight_start q (omega (arith, long))) in
    omega (arith, (h m k).least q (record { long = long; start = tt }) ends, total_until c g.path q g.is_path.long long same, g.is, mine)
  where
    take_front : (xs ys : List Bool) → take (length xs) (xs ++ ys) ≡ xs
    take_front [] ys = refl
    take_front (x ∷ xs) ys = ap (λ z. x ∷ z) (take_front xs ys)

pub ahead_close : (c : List CostPair) (sums : List ℕ) → AreLowForward c sums → AreClose sums
ahead_close c sums h m n k l = omega (arith, forward_close h.first c (raised h.less sums) h.starts h.are m n k l, raised_at h.less sums m k, raised_at h.less sums n l)

-- ---- a step

module _ (pair : CostPair) (old a b c d zero one far_zero far_one : List ℕ) (la : length a ≡ 16) (lb : length b ≡ 16) (lc : length c ≡ 16) (ld : length d ≡ 16) (s : AreStepCosts pair 0 zero one) (f : AreStepCosts pair 16 far_zero far_one)
    (ha : (k : ℕ) → k < 16 → slice_index a k ≡ min (slice_index old (2 * k) + slice_index zero k) (slice_index old (2 * k + 1) + slice_index one k))
    (hb : (k : ℕ) → k < 16 → slice_index b k ≡ min (slice_index old (32 + 2 * k) + slice_index far_zero k) (slice_index old (32 + (2 * k + 1)) + slice_index far_one k))
    (hc : (k : ℕ) → k < 16 → slice_index c k ≡ min (slice_index old (2 * k) + slice_index one k) (slice_index old (2 * k + 1) + slice_index zero k))
    (hd : (k : ℕ) → k < 16 → slice_index d k ≡ min (slice_index old (32 + 2 * k) + slice_index far_one k) (slice_index old (32 + (2 * k + 1)) + slice_index far_zero k)) where
  -- the lower one of the ways into state k or k + 32
  abbrev into : Bool → ℕ → ℕ
  into i k = min (slice_index old (2 * k) + cost_from pair 0 i k) (slice_index old (2 * k + 1) + cost_from pair 1 i k)

  near : (i : Bool) (k x y : ℕ) → x ≡ cost_from pair 0 i (0 + k) → y ≡ cost_from pair 1 i (0 + k) → min (slice_index old (2 * k) + x) (slice_index old (2 * k + 1) + y) ≡ into i k
  near i k x y e g =
      let z : 0 + k ≡ k = omega arith in
      ap₂ (λ u v. min (slice_index old (2 * k) + u) (slice_index old (2 * k + 1) + v)) (e ∙ ap (cost_from pair 0 i) z) (g ∙ ap (cost_from pair 1 i) z)

  far : (i : Bool) (k x y : ℕ) → x ≡ cost_from pair 0 i (16 + k) → y ≡ cost_from pair 1 i (16 + k) → min (slice_index old (32 + 2 * k) + x) (slice_index old (32 + (2 * k + 1)) + y) ≡ into i (16 + k)
  far i k x y e g =
      let u : 32 + 2 * k ≡ 2 * (16 + k) = omega arith in
      let v : 32 + (2 * k + 1) ≡ 2 * (16 + k) + 1 = omega arith in
      ap₂ (λ p q. min (slice_index old p + x) (slice_index old q + y)) u v ∙ ap₂ (λ p q. min (slice_index old (2 * (16 + k)) + p) (slice_index old (2 * (16 + k) + 1) + q)) e g

  low_at : (k : ℕ) → k < 32 → slice_index (joined a b c d) k ≡ into false k
  low_at k l = go (cases_lt k 16)
    where
      go : (k < 16) ⊎ (16 ≤ k) → slice_index (joined a b c d) k ≡ into false k
      go (inl m) = a_at a b c d la lb lc ld k m ∙ ha k m ∙ near false k _ _ (s.even_zero k m).is (s.odd_zero k m).is
      go (inr m) =
          let j : k - 16 < 16 = omega (arith, l, m) in
          let e : 16 + (k - 16) ≡ k = omega (arith, m) in
          ap (slice_index (joined a b c d)) (sym e) ∙ b_at a b c d la lb lc ld (k - 16) j ∙ hb (k - 16) j ∙ far false (k - 16) _ _ (f.even_zero (k - 16) j).is (f.odd_zero (k - 16) j).is ∙ ap (into false) e

  high_at : (k : ℕ) → k < 32 → slice_index (joined a b c d) (k + 32) ≡ into true k
  high_at k l = go (cases_lt k 16)
    where
      go : (k < 16) ⊎ (16 ≤ k) → slice_index (joined a b c d) (k + 32) ≡ into true k
      go (inl m) =
          let e : k + 32 ≡ 32 + k = omega arith in
          ap (slice_index (joined a b c d)) e ∙ c_at a b c d la lb lc ld k m ∙ hc k m ∙ near true k _ _ (s.even_one k m).is (s.odd_one k m).is
      go (inr m) =
          let j : k - 16 < 16 = omega (arith, l, m) in
          let e : 16 + (k - 16) ≡ k = omega (arith, m) in
          let i : k + 32 ≡ 48 + (k - 16) = omega (arith, m) in
          ap (slice_index (joined a b c d)) i ∙ d_at a b c d la lb lc ld (k - 16) j ∙ hd (k - 16) j ∙ far true (k - 16) _ _ (f.even_one (k - 16) j).is (f.odd_one (k - 16) j).is ∙ ap (into true) e

  pub joined_forward : (new : List ℕ) → new ≡ joined a b c d → IsForward pair old new
  joined_forward new e = record {
    zero = λ k l. ap (λ z. slice_index z k) e ∙ low_at k l;
    one = λ k l. ap (λ z. slice_index z (k + 32)) e ∙ high_at k l;
  }

raised_forward : (less : ℕ) (x : CostPair) (old new : List ℕ) → IsForward x old new → IsForward x (raised less old) (raised less new)
raised_forward less x old new s = record {
  zero = λ k l. omega (arith, raised_at less new k (omega (arith, l)), raised_at less old (2 * k) (omega (arith, l)), raised_at less old (2 * k + 1) (omega (arith, l)), s.zero k l);
  one = λ k l. omega (arith, raised_at less new (k + 32) (omega (arith, l)), raised_at less old (2 * k) (omega (arith, l)), raised_at less old (2 * k + 1) (omega (arith, l)), s.one k l);
}

ahead_fits : (x : CostPair) (old new : List ℕ) → IsForward x old new → ((n : ℕ) → n < 64 → slice_index old n ≤ 57345) → (n : ℕ) → n < 64 → slice_index new n < 2 ^ 16
ahead_fits x old new s f n l = go (cases_lt n 32)
  where
    go : (n < 32) ⊎ (32 ≤ n) → slice_index new n < 2 ^ 16
    go (inl k) = omega (arith, s.zero n k, f (2 * n) (omega (arith, k)), from_small x 0 false n)
    go (inr k) =
        let e : n - 32 + 32 ≡ n = omega (arith, k) in
        omega (arith, ap (slice_index new) e, s.one (n - 32) (omega (arith, k, l)), f (2 * (n - 32)) (omega (arith, k, l)), from_small x 0 true (n - 32))

pub ahead_step : (x : CostPair) (old mid new : List ℕ) (c : List CostPair) → AreLowered old mid → IsForward x mid new → AreLowForward c old → AreLowForward (c ++ x ∷ []) new
ahead_step x old mid new c g s h =
    let less = g.less + h.less in
    let are : AreForward h.first c (raised less mid) = λ n l. subst (LeastInto h.first c n) (omega (arith, raised_at h.less old n l, raised_at less mid n l, g.is n l)) (h.are n l) in
    record {
      less = less;
      first = h.first;
      starts = h.starts;
      are = forward_more h.first c x (raised less mid) (raised less new) are (raised_forward less x mid new s);
      small = ahead_fits x mid new s g.few;
    }

pub ahead_none : (sums : List ℕ) → ((n : ℕ) → n < 64 → slice_index sums n ≡ 0) → AreLowForward [] sums
ahead_none sums h = record {
  less = 0;
  first = raised 0 sums;
  starts = λ n l. omega (arith, raised_at 0 sums n l, h n l);
  are = forward_none (raised 0 sums);
  small = λ n l. omega (arith, h n l);
}
