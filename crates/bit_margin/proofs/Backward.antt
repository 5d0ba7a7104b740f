-- Sums backward: the least totals from a state.
use Rattle.std.proofs.Common.{◌≡◌, ℕ, ◌+◌, ◌*◌, ◌/◌, ◌<◌, ◌≤◌, min, Bool, true, false, cond, List, [], ◌∷◌, ◌++◌, length, take, drop, ◌⊎◌, inl, inr, refl, sym, ap, ◌∙◌, ◌%◌, subst, arith, length-drop, take-append-drop, length-take-le, slice_index}
use Rattle.std.proofs.lemmas.List.{take_more, take-append-le}
use Rattle.std.proofs.lemmas.Bool.{cond_both, cases_lt, agree_below_at}
use Rattle.std.specs.declared.option.Option.TheVariants.{Some}
use Rattle.spec_words.specs.Bits.{bit, is_set}
use Rattle.code_paths.specs.declared.costs.CostPair.{CostPair}
use Rattle.code_paths.specs.Paths.{step_cost, total, IsPath, parity_x, parity_y}
use Rattle.code_paths.specs.States.{register}
use Rattle.code_paths.proofs.Extend.{step_front}
use Rattle.acs_lanes.specs.Totals.{IsBackward}
use Rattle.bit_margin.specs.Sums.{LeastFrom, AreBackward}

-- the cost of the step from a state on a bit
abbrev pub way : CostPair → ℕ → Bool → ℕ
way x n b = step_cost x (register n ++ b ∷ [])

pub step_small : (x : CostPair) (p : List Bool) → step_cost x p ≤ 8190
step_small x p =
    let a : cond (parity_x p) x.x1 x.x0 ≤ 4095 = cond_both (parity_x p) x.x1 x.x0 (λ z. z ≤ 4095) (λ e. x.small.x1_small) (λ e. x.small.x0_small) in
    let b : cond (parity_y p) x.y1 x.y0 ≤ 4095 = cond_both (parity_y p) x.y1 x.y0 (λ z. z ≤ 4095) (λ e. x.small.y1_small) (λ e. x.small.y0_small) in
    omega arith

pub total_small : (c : List CostPair) (p : List Bool) → total c p ≤ 8190 * length c
total_small [] p = omega arith
total_small (x ∷ c) p = omega (arith, step_small x p, total_small c (drop 1 p))

-- the state after a step on a bit
abbrev pub next : ℕ → Bool → ℕ
next n b = n / 2 + cond b 32 0

pub next_small : (n : ℕ) (b : Bool) → n < 64 → next n b < 64
next_small n true l = omega arith
next_small n false l = omega arith

-- its register

register_next : (n : ℕ) (b : Bool) → n < 64 → register (next n b) ≡ is_set n 1 ∷ is_set n 2 ∷ is_set n 3 ∷ is_set n 4 ∷ is_set n 5 ∷ b ∷ []
register_next n true l =
    let e0 : is_set (n / 2 + 32) 0 ≡ is_set n 1 = agree_below_at (λ n. is_set (n / 2 + 32) 0) (λ n. is_set n 1) 64 n refl l in
    let e1 : is_set (n / 2 + 32) 1 ≡ is_set n 2 = agree_below_at (λ n. is_set (n / 2 + 32) 1) (λ n. is_set n 2) 64 n refl l in
    let e2 : is_set (n / 2 + 32) 2 ≡ is_set n 3 = agree_below_at (λ n. is_set (n / 2 + 32) 2) (λ n. is_set n 3) 64 n refl l in
    let e3 : is_set (n / 2 + 32) 3 ≡ is_set n 4 = agree_below_at (λ n. is_set (n / 2 + 32) 3) (λ n. is_set n 4) 64 n refl l in
    let e4 : is_set (n / 2 + 32) 4 ≡ is_set n 5 = agree_below_at (λ n. is_set (n / 2 + 32) 4) (λ n. is_set n 5) 64 n refl l in
    let e5 : is_set (n / 2 + 32) 5 ≡ true = agree_below_at (λ n. is_set (n / 2 + 32) 5) (λ n. true) 64 n refl l in
    cc
register_next n false l =
    let e0 : is_set (n / 2 + 0) 0 ≡ is_set n 1 = agree_below_at (λ n. is_set (n / 2 + 0) 0) (λ n. is_set n 1) 64 n refl l in
    let e1 : is_set (n / 2 + 0) 1 ≡ is_set n 2 = agree_below_at (λ n. is_set (n / 2 + 0) 1) (λ n. is_set n 2) 64 n refl l in
    let e2 : is_set (n / 2 + 0) 2 ≡ is_set n 3 = agree_below_at (λ n. is_set (n / 2 + 0) 2) (λ n. is_set n 3) 64 n refl l in
    let e3 : is_set (n / 2 + 0) 3 ≡ is_set n 4 = agree_below_at (λ n. is_set (n / 2 + 0) 3) (λ n. is_set n 4) 64 n refl l in
    let e4 : is_set (n / 2 + 0) 4 ≡ is_set n 5 = agree_below_at (λ n. is_set (n / 2 + 0) 4) (λ n. is_set n 5) 64 n refl l in
    let e5 : is_set (n / 2 + 0) 5 ≡ false = agree_below_at (λ n. is_set (n / 2 + 0) 5) (λ n. false) 64 n refl l in
    cc

-- the first six bits are a register, and the seventh is b
pub seven : (q : List Bool) (n : ℕ) (b : Bool) → 7 ≤ length q → take 6 q ≡ register n → bit q 6 ≡ b → take 7 q ≡ register n ++ b ∷ []
seven q n b l e f = take_more q 6 false (omega arith) ∙ ap (λ z. z ++ bit q 6 ∷ []) e ∙ ap (λ z. register n ++ z ∷ []) f

pub step_is : (x : CostPair) (q : List Bool) (n : ℕ) (b : Bool) → 7 ≤ length q → take 7 q ≡ register n ++ b ∷ [] → step_cost x q ≡ way x n b
step_is x q n b l e =
    sym (ap (step_cost x) (take-append-drop 7 q)) ∙ step_front x (take 7 q) (drop 7 q) (omega (arith, length-take-le 7 q l)) ∙ ap (step_cost x) e

-- m is the least total of the paths over x and d that start in state n and continue with b
pub record LeastVia (x : CostPair) (d : List CostPair) (n : ℕ) (b : Bool) (m : ℕ) : Type 0 where
  pub path : List Bool
  pub long : length path ≡ 7 + length d
  pub begins : take 7 path ≡ register n ++ b ∷ []
  pub is : total (x ∷ d) path ≡ m
  pub least : (q : List Bool) → length q ≡ 7 + length d → take 7 q ≡ register n ++ b ∷ [] → m ≤ total (x ∷ d) q

front_of : (n : ℕ) (b : Bool) (p : List Bool) → n < 64 → 6 ≤ length p → take 6 p ≡ register (next n b) → take 7 (is_set n 0 ∷ p) ≡ register n ++ b ∷ []
front_of n b p l m e = ap (λ z. is_set n 0 ∷ z) (e ∙ register_next n b l)

tail_of : (q : List Bool) (n : ℕ) (b : Bool) → n < 64 → 7 ≤ length q → take 7 q ≡ register n ++ b ∷ [] → take 6 (drop 1 q) ≡ register (next n b)
tail_of [] n b l m e = absurd (omega arith)
tail_of (a ∷ q) n b l m e = ap (drop 1) e ∙ sym (register_next n b l)

pub via : (x : CostPair) (d : List CostPair) (n : ℕ) (b : Bool) (m : ℕ) → n < 64 → LeastFrom d (next n b) m → LeastVia x d n b (way x n b + m)
via x d n b m l h =
    let f : take 7 (is_set n 0 ∷ h.path) ≡ register n ++ b ∷ [] = front_of n b h.path l (omega (arith, h.is_path.long)) h.is_path.start in
    record {
      path = is_set n 0 ∷ h.path;
      long = omega (arith, h.is_path.long);
      begins = f;
      is = omega (arith, h.is, step_is x (is_set n 0 ∷ h.path) n b (omega (arith, h.is_path.long)) f);
      least = λ q k e. omega (arith, step_is x q n b (omega arith) e, h.least (drop 1 q) (record { long = omega (arith, length-drop 1 q); start = tail_of q n b l (omega arith) e }));
    }

from_via : (x : CostPair) (d : List CostPair) (n u v : ℕ) → LeastVia x d n false u → LeastVia x d n true v → LeastFrom (x ∷ d) n (min u v)
from_via x d n u v h k = go (cases_lt u v)
  where
    begin : (p : List Bool) (b : Bool) → 7 ≤ length p → take 7 p ≡ register n ++ b ∷ [] → take 6 p ≡ register n
    begin p b l e = sym (ap (take 6) (take-append-drop 7 p)) ∙ take-append-le 6 (take 7 p) (drop 7 p) (omega (arith, length-take-le 7 p l)) ∙ ap (take 6) e

    least : (q : List Bool) → IsPath (Some (register n)) (x ∷ d) q → (bit q 6 ≡ false) ⊎ (bit q 6 ≡ true) → min u v ≤ total (x ∷ d) q
    least q i (inl e) = omega (arith, h.least q (omega (arith, i.long)) (seven q n false (omega (arith, i.long)) i.start e))
    least q i (inr e) = omega (arith, k.least q (omega (arith, i.long)) (seven q n true (omega (arith, i.long)) i.start e))

    split : (b : Bool) → (b ≡ false) ⊎ (b ≡ true)
    split true = inr refl
    split false = inl refl

    go : (u < v) ⊎ (v ≤ u) → LeastFrom (x ∷ d) n (min u v)
    go (inl l) = record {
      path = h.path;
      is_path = record { long = omega (arith, h.long); start = begin h.path false (omega (arith, h.long)) h.begins };
      is = omega (arith, h.is);
      least = λ q i. least q i (split (bit q 6));
    }
    go (inr l) = record {
      path = k.path;
      is_path = record { long = omega (arith, k.long); start = begin k.path true (omega (arith, k.long)) k.begins };
      is = omega (arith, k.is);
      least = λ q i. least q i (split (bit q 6));
    }

pub from_next : (x : CostPair) (d : List CostPair) (n u v : ℕ) → n < 64 → LeastFrom d (n / 2) u → LeastFrom d (n / 2 + 32) v → LeastFrom (x ∷ d) n (min (way x n false + u) (way x n true + v))
from_next x d n u v l h k =
    from_via x d n (way x n false + u) (way x n true + v) (via x d n false u l (subst (λ z. LeastFrom d z u) (omega arith) h)) (via x d n true v l k)

pub backward_none : (sums : List ℕ) → ((n : ℕ) → n < 64 → slice_index sums n ≡ 0) → AreBackward [] sums
backward_none sums h n l = record {
  path = register n;
  is_path = record { long = refl; start = refl };
  is = sym (h n l);
  least = λ q i. omega (arith, h n l);
}

-- one more step
pub backward_more : (x : CostPair) (d : List CostPair) (old new : List ℕ) → AreBackward d old → IsBackward x old new → AreBackward (x ∷ d) new
backward_more x d old new h s n l = go (cases_lt (n % 2) 1)
  where
    by : (m : ℕ) → m ≡ n → slice_index new m ≡ min (slice_index old (n / 2) + way x m false) (slice_index old (n / 2 + 32) + way x m true) → LeastFrom (x ∷ d) n (slice_index new n)
    by m e f =
        let g : slice_index new n ≡ min (way x n false + slice_index old (n / 2)) (way x n true + slice_index old (n / 2 + 32)) = omega (arith, f, ap (slice_index new) e, ap (λ (k : ℕ). way x k false) e, ap (λ (k : ℕ). way x k true) e) in
        subst (LeastFrom (x ∷ d) n) (sym g) (from_next x d n (slice_index old (n / 2)) (slice_index old (n / 2 + 32)) l (h (n / 2) (omega arith)) (h (n / 2 + 32) (omega arith)))

    go : (n % 2 < 1) ⊎ (1 ≤ n % 2) → LeastFrom (x ∷ d) n (slice_index new n)
    go (inl m) =
        let z : 2 * (n / 2) + 0 ≡ 2 * (n / 2) = omega arith in
        by (2 * (n / 2) + 0) (omega arith) (ap (slice_index new) z ∙ s.even (n / 2) (omega arith))
    go (inr m) = by (2 * (n / 2) + 1) (omega arith) (s.odd (n / 2) (omega arith))

pub backward_small : (d : List CostPair) (sums : List ℕ) → AreBackward d sums → (n : ℕ) → n < 64 → slice_index sums n ≤ 8190 * length d
backward_small d sums h n l = let k = h n l in omega (arith, k.is, total_small d k.path)
