-- Sums forward: the least totals to a state.
use Rattle.std.proofs.Common.{◌≡◌, ℕ, ◌+◌, ◌-◌, ◌*◌, ◌%◌, ◌<◌, ◌≤◌, min, Bool, true, false, List, [], ◌∷◌, ◌++◌, length, take, drop, ◌⊎◌, inl, inr, refl, sym, ap, ◌∙◌, subst, arith, slice_index, length-take-le, ◌^◌}
use Rattle.std.proofs.lemmas.List.{take-append-le}
use Rattle.std.proofs.lemmas.Bool.{cases_lt, agree_below_at}
use Rattle.std.specs.declared.option.Option.TheVariants.{None}
use Rattle.spec_words.specs.Bits.{is_set}
use Rattle.code_paths.specs.declared.costs.CostPair.{CostPair}
use Rattle.code_paths.specs.Paths.{step_cost, IsPath}
use Rattle.code_paths.specs.States.{register, even_of, odd_of}
use Rattle.code_paths.specs.Trial.{weight}
use Rattle.code_paths.proofs.Order.{weight-lt}
use Rattle.code_paths.proofs.Extend.{total_push, path_push, ends_push, from_one, From}
use Rattle.code_paths.proofs.Registers.{older, number_of, even_register, odd_register}
use Rattle.acs_lanes.specs.Totals.{IsForward}
use Rattle.bit_margin.specs.Sums.{with_start, LeastInto, AreForward, far}
use Rattle.bit_margin.proofs.Backward.{total_small, way}

pub forward_none : (first : List ℕ) → AreForward first [] first
forward_none first n l = record {
  path = register n;
  is_path = record { long = refl; start = tt };
  ends = refl;
  is = omega (arith, ap (slice_index first) (number_of n l));
  least = λ q i e. omega (arith, ap (λ (z : List Bool). slice_index first (weight (take 6 z))) e, ap (slice_index first) (number_of n l));
}

start_push : (first : List ℕ) (c : List CostPair) (x : CostPair) (p : List Bool) (b : Bool) (s : ℕ) → length p ≡ 6 + length c → drop (length c) p ≡ register s
    → with_start first (c ++ x ∷ []) (p ++ b ∷ []) ≡ with_start first c p + way x s b
start_push first c x p b s l e =
    omega (arith, total_push c x p b l, ap (λ (z : List Bool). slice_index first (weight z)) (take-append-le 6 p (b ∷ []) (omega arith)), ap (λ (z : List Bool). step_cost x (z ++ b ∷ [])) e)

-- one more step, to state n
into_next : (first : List ℕ) (c : List CostPair) (x : CostPair) (n u v : ℕ) → n < 64 → LeastInto first c (even_of n) u → LeastInto first c (odd_of n) v
    → LeastInto first (c ++ x ∷ []) n (min (u + way x (even_of n) (is_set n 5)) (v + way x (odd_of n) (is_set n 5)))
into_next first c x n u v l h k = go (cases_lt (u + way x (even_of n) (is_set n 5)) (v + way x (odd_of n) (is_set n 5)))
  where
    least_by : (q : List Bool) (f : List Bool) (z : Bool) → q ≡ f ++ is_set n 5 ∷ [] → IsPath None c f → drop (length c) f ≡ z ∷ older n
        → min (u + way x (even_of n) (is_set n 5)) (v + way x (odd_of n) (is_set n 5)) ≤ with_start first (c ++ x ∷ []) q
    least_by q f false g i e =
        let s : drop (length c) f ≡ register (even_of n) = e ∙ sym (even_register n l) in
        omega (arith, h.least f i s, start_push first c x f (is_set n 5) (even_of n) i.long s, ap (with_start first (c ++ x ∷ [])) g)
    least_by q f true g i e =
        let s : drop (length c) f ≡ register (odd_of n) = e ∙ sym (odd_register n l) in
        omega (arith, k.least f i s, start_push first c x f (is_set n 5) (odd_of n) i.long s, ap (with_start first (c ++ x ∷ [])) g)

    least : (q : List Bool) → IsPath None (c ++ x ∷ []) q → drop (length (c ++ x ∷ [])) q ≡ register n
        → min (u + way x (even_of n) (is_set n 5)) (v + way x (odd_of n) (is_set n 5)) ≤ with_start first (c ++ x ∷ []) q
    least q i e = let g : From None c (older n) (is_set n 5) q = from_one None c x (older n) (is_set n 5) q i e in least_by q g.front g.oldest g.is g.path g.ends

    go : (u + way x (even_of n) (is_set n 5) < v + way x (odd_of n) (is_set n 5)) ⊎ (v + way x (odd_of n) (is_set n 5) ≤ u + way x (even_of n) (is_set n 5))
        → LeastInto first (c ++ x ∷ []) n (min (u + way x (even_of n) (is_set n 5)) (v + way x (odd_of n) (is_set n 5)))
    go (inl m) = record {
      path = h.path ++ is_set n 5 ∷ [];
      is_path = path_push None c x h.path (is_set n 5) h.is_path;
      ends = ends_push c x h.path (is_set n 5) h.is_path.long ∙ ap (λ (r : List Bool). drop 1 r ++ is_set n 5 ∷ []) (h.ends ∙ even_register n l);
      is = omega (arith, start_push first c x h.path (is_set n 5) (even_of n) h.is_path.long h.ends, h.is);
      least = least;
    }
    go (inr m) = record {
      path = k.path ++ is_set n 5 ∷ [];
      is_path = path_push None c x k.path (is_set n 5) k.is_path;
      ends = ends_push c x k.path (is_set n 5) k.is_path.long ∙ ap (λ (r : List Bool). drop 1 r ++ is_set n 5 ∷ []) (k.ends ∙ odd_register n l);
      is = omega (arith, start_push first c x k.path (is_set n 5) (odd_of n) k.is_path.long k.ends, k.is);
      least = least;
    }

into_at : (first : List ℕ) (c : List CostPair) (x : CostPair) (old : List ℕ) → AreForward first c old → (n m : ℕ) (i : Bool) → n < 64 → n % 32 ≡ m → is_set n 5 ≡ i
    → LeastInto first (c ++ x ∷ []) n (min (slice_index old (2 * m) + way x (2 * m) i) (slice_index old (2 * m + 1) + way x (2 * m + 1) i))
into_at first c x old h n m i l e f =
    let r = into_next first c x n (slice_index old (even_of n)) (slice_index old (odd_of n)) l (h (even_of n) (omega arith)) (h (odd_of n) (omega arith)) in
    let s = subst (λ (z : Bool). LeastInto first (c ++ x ∷ []) n (min (slice_index old (even_of n) + way x (even_of n) z) (slice_index old (odd_of n) + way x (odd_of n) z))) f r in
    subst (λ (z : ℕ). LeastInto first (c ++ x ∷ []) n (min (slice_index old (2 * z) + way x (2 * z) i) (slice_index old (2 * z + 1) + way x (2 * z + 1) i))) e s

even_way : (x : CostPair) (k : ℕ) (b : Bool) → way x (2 * k + 0) b ≡ way x (2 * k) b
even_way x k b = let e : 2 * k + 0 ≡ 2 * k = omega arith in ap (λ (n : ℕ). way x n b) e

pub forward_more : (first : List ℕ) (c : List CostPair) (x : CostPair) (old new : List ℕ) → AreForward first c old → IsForward x old new → AreForward first (c ++ x ∷ []) new
forward_more first c x old new h f n l = go (cases_lt n 32)
  where
    low : n < 32 → slice_index new n ≡ min (slice_index old (2 * n) + way x (2 * n) false) (slice_index old (2 * n + 1) + way x (2 * n + 1) false)
    low m = omega (arith, f.zero n m, even_way x n false)

    high : (k : ℕ) → k < 32 → k + 32 ≡ n → slice_index new n ≡ min (slice_index old (2 * k) + way x (2 * k) true) (slice_index old (2 * k + 1) + way x (2 * k + 1) true)
    high k m g = omega (arith, f.one k m, even_way x k true, ap (slice_index new) g)

    go : (n < 32) ⊎ (32 ≤ n) → LeastInto first (c ++ x ∷ []) n (slice_index new n)
    go (inl m) = subst (LeastInto first (c ++ x ∷ []) n) (sym (low m)) (into_at first c x old h n n false l (omega arith) (agree_below_at (λ n. is_set n 5) (λ n. false) 32 n refl m))
    go (inr m) =
        let e : n - 32 + 32 ≡ n = omega arith in
        let b : is_set n 5 ≡ true = ap (λ (z : ℕ). is_set z 5) (sym e) ∙ agree_below_at (λ n. is_set (n + 32) 5) (λ n. true) 32 (n - 32) refl (omega arith) in
        subst (LeastInto first (c ++ x ∷ []) n) (sym (high (n - 32) (omega arith) e)) (into_at first c x old h n (n - 32) true l (omega arith) b)

pub weight_start : (q : List Bool) → 6 ≤ length q → weight (take 6 q) < 64
weight_start q l = subst (λ k. weight (take 6 q) < 2 ^ k) (length-take-le 6 q l) (weight-lt (take 6 q))

pub forward_small : (first : List ℕ) (c : List CostPair) (sums : List ℕ) → ((k : ℕ) → k < 64 → slice_index first k ≤ far) → AreForward first c sums → (n : ℕ) → n < 64 → slice_index sums n ≤ far + 8190 * length c
forward_small first c sums f h n l =
    let k = h n l in
    omega (arith, k.is, f (weight (take 6 k.path)) (weight_start k.path (omega (arith, k.is_path.long))), total_small c k.path)
