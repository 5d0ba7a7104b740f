-- Least totals from each state less a number.
use Rattle.std.proofs.Common.{◌≡◌, ℕ, zero, suc, ◌+◌, ◌-◌, ◌*◌, ◌/◌, ◌%◌, ◌^◌, ◌<◌, ◌≤◌, min, Bool, false, List, [], ◌∷◌, ◌++◌, length, take, drop, ◌⊎◌, inl, inr, refl, sym, ap, ◌∙◌, subst, arith, length-append, length-drop, slice_index}
use Rattle.std.specs.Int.{abs_diff}
use Rattle.std.proofs.lemmas.List.{drop-drop}
use Rattle.code_paths.specs.declared.costs.CostPair.{CostPair}
use Rattle.code_paths.specs.Paths.{total}
use Rattle.code_paths.specs.States.{register}
use Rattle.acs_lanes.specs.Lanes16.{AreClose, AreLowered}
use Rattle.acs_lanes.specs.Totals.{IsBackward}
use Rattle.acs_lanes.proofs.Laid.{at_range}
use Rattle.acs_lanes.proofs.LaneLaws.{from_small}
use Rattle.bit_margin.specs.Sums.{LeastFrom, AreBackward, AreLowBackward, IsLeastOf, raised}
use Rattle.bit_margin.proofs.Backward.{backward_more, backward_none, step_small}

pub raised_at : (less : ℕ) (sums : List ℕ) (n : ℕ) → n < 64 → slice_index (raised less sums) n ≡ slice_index sums n + less
raised_at less sums n l = at_range (λ n. slice_index sums n + less) 64 n refl l

-- ---- how far sums are apart

-- two paths that are the same after some bits
total_near : (k : ℕ) (d : List CostPair) (p q : List Bool) → drop k p ≡ drop k q → total d q ≤ total d p + 8190 * k
total_near zero d p q e = omega (arith, ap (total d) e)
total_near (suc k) [] p q e = omega arith
total_near (suc k) (x ∷ d) p q e =
    let s : 1 + k ≡ suc k = omega arith in
    let f : drop k (drop 1 p) ≡ drop k (drop 1 q) = drop-drop k 1 p ∙ ap (λ m. drop m p) s ∙ e ∙ sym (drop-drop k 1 q ∙ ap (λ m. drop m q) s) in
    omega (arith, step_small x q, total_near k d (drop 1 p) (drop 1 q) f)

pub backward_close : (d : List CostPair) (sums : List ℕ) → AreBackward d sums → (m n : ℕ) → m < 64 → n < 64 → slice_index sums m ≤ slice_index sums n + 49140
backward_close d sums h m n k l =
    let g = h n l in
    let q = register m ++ drop 6 g.path in
    let six : length (register m) ≡ 6 = refl in
    let long : length q ≡ 6 + length d = omega (arith, length-append (register m) (drop 6 g.path), six, length-drop 6 g.path, g.is_path.long) in
    omega (arith, (h m k).least q (record { long = long; start = refl }), total_near 6 d g.path q refl, g.is)

pub low_close : (d : List CostPair) (sums : List ℕ) → AreLowBackward d sums → AreClose sums
low_close d sums h m n k l = omega (arith, backward_close d (raised h.less sums) h.are m n k l, raised_at h.less sums m k, raised_at h.less sums n l)

-- ---- a step

raised_backward : (less : ℕ) (x : CostPair) (old new : List ℕ) → IsBackward x old new → IsBackward x (raised less old) (raised less new)
raised_backward less x old new s = record {
  even = λ k l. omega (arith, raised_at less new (2 * k) (omega arith), raised_at less old k (omega arith), raised_at less old (k + 32) (omega arith), s.even k l);
  odd = λ k l. omega (arith, raised_at less new (2 * k + 1) (omega arith), raised_at less old k (omega arith), raised_at less old (k + 32) (omega arith), s.odd k l);
}

step_fits : (x : CostPair) (old new : List ℕ) → IsBackward x old new → ((n : ℕ) → n < 64 → slice_index old n ≤ 57345) → (n : ℕ) → n < 64 → slice_index new n < 2 ^ 16
step_fits x old new s f n l = go (n % 2) (n / 2) (omega arith) (omega arith)
  where
    go : (r k : ℕ) → r < 2 → 2 * k + r ≡ n → slice_index new n < 2 ^ 16
    go zero k p e = let g : 2 * k ≡ n = omega (arith, e) in omega (arith, ap (slice_index new) g, s.even k (omega (arith, e, l)), f k (omega (arith, e, l)), from_small x 0 false k)
    go (suc zero) k p e = omega (arith, ap (slice_index new) e, s.odd k (omega (arith, e, l)), f k (omega (arith, e, l)), from_small x 1 false k)
    go (suc (suc r)) k p e = absurd (omega (arith, p))

pub low_step : (x : CostPair) (old mid new : List ℕ) (d : List CostPair) → AreLowered old mid → IsBackward x mid new → AreLowBackward d old → AreLowBackward (x ∷ d) new
low_step x old mid new d g s h =
    let less = g.less + h.less in
    let are : AreBackward d (raised less mid) = λ n l. subst (LeastFrom d n) (omega (arith, raised_at h.less old n l, raised_at less mid n l, g.is n l)) (h.are n l) in
    record {
      less = less;
      are = backward_more x d (raised less mid) (raised less new) are (raised_backward less x mid new s);
      small = step_fits x mid new s g.few;
    }

pub low_none : (sums : List ℕ) → ((n : ℕ) → n < 64 → slice_index sums n ≡ 0) → AreLowBackward [] sums
low_none sums h = record {
  less = 0;
  are = backward_none (raised 0 sums) (λ n l. omega (arith, raised_at 0 sums n l, h n l));
  small = λ n l. omega (arith, h n l);
}

-- ---- margins by them

pub raised_least : (before behind : List ℕ) (less from u : ℕ) → from ≤ 32 → IsLeastOf (λ k. slice_index before (k + from) + slice_index behind (k + from)) 32 u
    → IsLeastOf (λ k. slice_index before (k + from) + slice_index (raised less behind) (k + from)) 32 (u + less)
raised_least before behind less from u p h = record {
  place = h.place;
  within = h.within;
  is = omega (arith, h.is, raised_at less behind (h.place + from) (omega (arith, h.within, p)));
  least = λ k l. omega (arith, h.least k l, raised_at less behind (k + from) (omega (arith, l, p)));
}

pub apart_raised : (less u v : ℕ) → abs_diff u v ≡ abs_diff (u + less) (v + less)
apart_raised less u v = omega arith
