-- The bits shared by the tracked paths, and the least of these paths.
use Rattle.std.proofs.Common.{◌≡◌, ℕ, ◌+◌, ◌-◌, ◌*◌, ◌^◌, ◌<◌, ◌≤◌, Bool, true, false, List, ◌++◌, length, take, drop, ◌⊎◌, inl, inr, refl, sym, ap, ap₂, ◌∙◌, subst, arith, length-append, length-take, length-drop, append_assoc, take-append-drop, length-take-le}
use Rattle.std.proofs.lemmas.Bool.{cases_lt, cases_Bool, cases_order}
use Rattle.std.proofs.lemmas.List.{take_at, drop_at, drop-append-le, drop_all}
use Rattle.std.proofs.Math.Nat.{mul-le-mul_left}
use Rattle.std.specs.Prelude.{slice_index, IsTrue}
use Rattle.std.specs.declared.option.Option.{Option}
use Rattle.code_paths.specs.declared.costs.CostPair.{CostPair}
use Rattle.acs_plain.specs.declared.sums.Sums.{Sums}
use Rattle.code_paths.specs.Paths.{LeastTo, Least, IsPath}
use Rattle.code_paths.specs.States.{register}
use Rattle.acs_plain.specs.Steps.{alive}
use Rattle.code_paths.specs.Streams.{IsPrefix, IsCommon, Shared}
use Rattle.inner_decoder.specs.Tracking.{Tracks}
use Rattle.inner_decoder.specs.Metrics.{IsBest}
use Rattle.survivor_ring.specs.Survivors.{AreAlike, IsAlike}
use Rattle.code_paths.specs.Trial.{weight}
use Rattle.code_paths.proofs.Order.{weight-lt, weight-append, NotAfter, not_after, or_before}
use Rattle.code_paths.proofs.Unique.{least_to_unique}
use Rattle.code_paths.proofs.Registers.{register_from, IsRegister, number_of}

from_prefix : (r g w : List Bool) → IsPrefix r (g ++ w) → take (length r - length g) w ≡ drop (length g) r
from_prefix r g w p = go (cases_lt (length r) (length g))
  where
    go : (length r < length g) ⊎ (length g ≤ length r) → take (length r - length g) w ≡ drop (length g) r
    go (inl l) = let e : length r - length g ≡ 0 = omega arith in rw e (sym (drop_all (length g) r (omega arith)))
    go (inr l) =
        let v : w ≡ drop (length g) r ++ p.rest = sym (drop_at g w (length g) refl) ∙ ap (drop (length g)) p.is ∙ drop-append-le (length g) r p.rest l in
        ap (take (length r - length g)) v ∙ take_at (drop (length g) r) p.rest (length r - length g) (length-drop (length g) r)

prefix_length : (r w : List Bool) → IsPrefix r w → length r ≤ length w
prefix_length r w p = omega (arith, ap length p.is, length-append r p.rest)

module _ (b : Option (List Bool)) (d : List CostPair) (gave : List Bool) (sums : Sums) (waits : ℕ → List Bool) (waiting : ℕ) (h : Tracks b d gave sums waits waiting) where
  -- a path ends in an alive state
  pub record Reached (q : List Bool) : Type 0 where
    pub state : ℕ
    pub below : state < 64
    pub lives : IsTrue (alive sums state)
    pub ends : drop (length d) q ≡ register state

  pub reached : (q : List Bool) → IsPath b d q → Reached q
  reached q k =
      let r = register_from (drop (length d) q) (omega (arith, length-drop (length d) q, k.long)) in
      go r (cases_Bool (alive sums r.number))
    where
      go : (r : IsRegister (drop (length d) q)) → (alive sums r.number ≡ true) ⊎ (alive sums r.number ≡ false) → Reached q
      go r (inl t) = record { state = r.number; below = r.below; lives = t; ends = sym r.is }
      go r (inr t) = absurd (h.none r.number r.below t q k (sym r.is))

  pub waits_long : (n : ℕ) → n < 64 → IsTrue (alive sums n) → length (waits n) ≡ waiting
  waits_long n l t = omega (arith, ap length (h.bits n l t), length-append gave (waits n), length-drop 6 (h.path n), (h.least n l t).path.long, h.long)

  -- the least path to an end is the tracked one
  pub tracked : (e p : List Bool) → LeastTo b d e p → (n : ℕ) × (n < 64) × IsTrue (alive sums n) × (drop 6 p ≡ gave ++ waits n)
  tracked e p k =
      let r = reached p k.path in
      let same : p ≡ h.path r.state = least_to_unique b d (register r.state) p (h.path r.state) (subst (λ z. LeastTo b d z p) (sym k.ends ∙ r.ends) k) (h.least r.state r.below r.lives) in
      (r.state, r.below, r.lives, ap (drop 6) same ∙ h.bits r.state r.below r.lives)

  common_prefix : (r : List Bool) → IsCommon b d r → (n : ℕ) → n < 64 → IsTrue (alive sums n) → IsPrefix r (gave ++ waits n)
  common_prefix r c n l t = subst (IsPrefix r) (h.bits n l t) (c (register n) (h.path n) (h.least n l t))

  pub shared_is : (k : ℕ) (m : ℕ) → m < 64 → IsTrue (alive sums m) → IsAlike sums.alive waits waiting k → Shared b d (gave ++ take k (waits m))
  shared_is k m l t a = record {
    common = λ e p q. go p (tracked e p q);
    longest = λ r c.
        let u : length r ≤ length (gave ++ waits m) = prefix_length r (gave ++ waits m) (common_prefix r c m l t) in
        let j : length r - length gave ≤ k = a.most (length r - length gave) (omega (arith, u, length-append gave (waits m), waits_long m l t))
        (λ x y p q v w. from_prefix r gave (waits x) (common_prefix r c x p v) ∙ sym (from_prefix r gave (waits y) (common_prefix r c y q w))) in
        omega (arith, j, length-append gave (take k (waits m)), length-take k (waits m), waits_long m l t, a.within);
  }
    where
      go : (p : List Bool) → (n : ℕ) × (n < 64) × IsTrue (alive sums n) × (drop 6 p ≡ gave ++ waits n) → IsPrefix (gave ++ take k (waits m)) (drop 6 p)
      go p r = record {
        rest = drop k (waits r.0);
        is = r.3 ∙ ap (λ z. gave ++ z) (sym (take-append-drop k (waits r.0)) ∙ ap (λ z. z ++ drop k (waits r.0)) (a.alike r.0 m r.1 l r.2 t)) ∙ sym (append_assoc gave (take k (waits m)) (drop k (waits r.0)));
      }

  -- a shared prefix is given
  pub tracks_give : (k : ℕ) (m : ℕ) (less : ℕ → List Bool) → m < 64 → IsTrue (alive sums m) → k ≤ waiting → AreAlike sums.alive waits k
      → ((n : ℕ) → n < 64 → IsTrue (alive sums n) → less n ≡ drop k (waits n)) → Tracks b d (gave ++ take k (waits m)) sums less (waiting - k)
  tracks_give k m less l t w a f = record {
    less = h.less;
    path = h.path;
    long = omega (arith, h.long, length-append gave (take k (waits m)), length-take k (waits m), waits_long m l t);
    least = h.least;
    cost = h.cost;
    bits = λ n i u. h.bits n i u ∙ ap (λ z. gave ++ z) (sym (take-append-drop k (waits n)) ∙ ap₂ (λ y z. y ++ z) (a n m i l u t) (sym (f n i u))) ∙ sym (append_assoc gave (take k (waits m)) (less n));
    none = h.none;
    bounded = h.bounded;
  }

  -- the path to a lower register is not after that to a higher one of the same cost
  lower_first : (p q : List Bool) (e n : ℕ) → length p ≡ length q → length d ≤ length p → e < 64 → n < 64 → drop (length d) p ≡ register e → drop (length d) q ≡ register n → e < n → weight p ≤ weight q
  lower_first p q e n l k i j u v m =
      let t = length d in
      let x : weight p ≡ weight (take t p) + 2 ^ t * e = ap weight (sym (take-append-drop t p)) ∙ weight-append (take t p) (drop t p) ∙ ap₂ (λ y z. weight (take t p) + 2 ^ y * z) (length-take-le t p k) (ap weight u ∙ number_of e i) in
      let y : weight q ≡ weight (take t q) + 2 ^ t * n = ap weight (sym (take-append-drop t q)) ∙ weight-append (take t q) (drop t q) ∙ ap₂ (λ y z. weight (take t q) + 2 ^ y * z) (length-take-le t q (omega arith)) (ap weight v ∙ number_of n j) in
      let s : weight (take t p) < 2 ^ t = subst (λ z. weight (take t p) < 2 ^ z) (length-take-le t p k) (weight-lt (take t p)) in
      let r : 2 ^ t * (e + 1) ≤ 2 ^ t * n = mul-le-mul_left (2 ^ t) (omega arith) in
      omega (arith, x, y, s, r)

  pub best_least : (e : ℕ) → IsBest sums e → Least b d (h.path e)
  best_least e k = record { path = p.path; first = λ q i. or_before d (h.path e) q (omega (arith, p.path.long, i.long)) (go q i (reached q i)) }
    where
      p : LeastTo b d (register e) (h.path e)
      p = h.least e k.below k.lives

      through : (q : List Bool) (n : ℕ) → n < 64 → IsTrue (alive sums n) → NotAfter d (h.path n) q → length q ≡ 6 + length d → (slice_index sums.cost e < slice_index sums.cost n) ⊎ ((slice_index sums.cost e ≡ slice_index sums.cost n) × (e ≤ n)) → NotAfter d (h.path e) q
      through q n l t (inl a) i (inl c) = inl (omega (arith, a, c, h.cost e k.below k.lives, h.cost n l t))
      through q n l t (inl a) i (inr c) = inl (omega (arith, a, c.0, h.cost e k.below k.lives, h.cost n l t))
      through q n l t (inr a) i (inl c) = inl (omega (arith, a.0, c, h.cost e k.below k.lives, h.cost n l t))
      through q n l t (inr a) i (inr c) = inr (omega (arith, a.0, c.0, h.cost e k.below k.lives, h.cost n l t), same (cases_order e n))
        where
          same : (e ≡ n) ⊎ ((e < n) ⊎ (n < e)) → weight (h.path e) ≤ weight q
          same (inl s) = omega (arith, ap (λ z. weight (h.path z)) s, a.1)
          same (inr (inl s)) = omega (arith, a.1, lower_first (h.path e) (h.path n) e n (omega (arith, p.path.long, (h.least n l t).path.long)) (omega (arith, p.path.long)) k.below l p.ends (h.least n l t).ends s)
          same (inr (inr s)) = absurd (omega (arith, c.1))

      go : (q : List Bool) → IsPath b d q → Reached q → NotAfter d (h.path e) q
      go q i r =
          let w = h.least r.state r.below r.lives in
          through q r.state r.below r.lives (not_after d (h.path r.state) q (omega (arith, w.path.long, i.long)) (w.first q i r.ends)) i.long (k.least r.state r.below r.lives)
