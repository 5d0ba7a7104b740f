-- Exhaustive search of paths, in order.
use Rattle.std.proofs.Common.{◌≡◌, ℕ, zero, suc, ◌+◌, ◌-◌, ◌*◌, ◌%◌, ◌^◌, ◌<◌, ◌≤◌, Bool, true, false, true≢false, List, [], ◌∷◌, length, take, drop, get_or, set, replicate, ◌⊎◌, inl, inr, refl, sym, ap, ◌∙◌, subst, arith, length-drop}
use Rattle.std.proofs.Math.Nat.{pow-suc}
use Rattle.std.proofs.lemmas.Bool.{cases_lt}
use Rattle.std.proofs.lemmas.List.{take-replicate, take_all}
use Rattle.std.proofs.lemmas.Nat.{one_shl}
use Rattle.std.specs.Prelude.{IsTrue}
use Rattle.std.specs.declared.option.Option.{Option}
use Rattle.std.specs.declared.option.Option.TheVariants.{None, Some}
use Rattle.code_paths.specs.declared.costs.CostPair.{CostPair}
use Rattle.code_paths.specs.Paths.{total, step_cost, IsPath, Least, LeastTo, Unreached}
use Rattle.code_paths.specs.Trial.{digit, weight, Ends, IsFirst, BestBelow}
use Rattle.code_paths.proofs.Order.{weight_same, weight-lt, or_before}

-- ---- counting

pub weight_on : (p : List Bool) (k : ℕ) → k < length p → get_or p k false ≡ false → weight (set p k true) ≡ weight p + 2 ^ k
weight_on [] k l e = absurd (omega arith)
weight_on (b ∷ p) zero l e = omega (arith, ap digit e)
weight_on (b ∷ p) (suc k) l e = omega (arith, weight_on p k (omega arith) e, pow-suc 2 k)

pub weight_off : (p : List Bool) (k : ℕ) → k < length p → get_or p k false ≡ true → weight (set p k false) + 2 ^ k ≡ weight p
weight_off [] k l e = absurd (omega arith)
weight_off (b ∷ p) zero l e = omega (arith, ap digit e)
weight_off (b ∷ p) (suc k) l e = omega (arith, weight_off p k (omega arith) e, pow-suc 2 k)

pub weight_zeros : (n : ℕ) → weight (replicate n false) ≡ 0
weight_zeros zero = refl
weight_zeros (suc n) = omega (arith, weight_zeros n)

-- ---- one more path

module _ (a e : Option (List Bool)) (c : List CostPair) where
  same_path : (p q : List Bool) → length p ≡ 6 + length c → IsPath a c q → weight q < weight p + 1 → (weight q < weight p) ⊎ (q ≡ p)
  same_path p q l h w = go (cases_lt (weight q) (weight p))
    where
      go : (weight q < weight p) ⊎ (weight p ≤ weight q) → (weight q < weight p) ⊎ (q ≡ p)
      go (inl k) = inl k
      go (inr k) = inr (weight_same q p (omega (arith, h.long, l)) (omega arith))

  pub best_unfit : (p best : List Bool) (any : Bool) (cost : ℕ) → length p ≡ 6 + length c → (IsPath a c p → Ends e p → ⊥) → BestBelow a e c (weight p) any cost best → BestBelow a e c (weight p + 1) any cost best
  best_unfit p best any cost l none_fits h = record {
    path = h.path;
    ends = h.ends;
    cost_is = h.cost_is;
    below = λ t. omega (arith, h.below t);
    first = λ t q i f w. first t q i f (same_path p q l i w);
    none = λ t q i f w. none t q i f (same_path p q l i w);
  }
    where
      first : IsTrue any → (q : List Bool) → IsPath a c q → Ends e q → (weight q < weight p) ⊎ (q ≡ p) → (total c best < total c q) ⊎ ((total c best ≡ total c q) × (weight best ≤ weight q))
      first t q i f (inl w) = h.first t q i f w
      first t q i f (inr s) = absurd (none_fits (subst (IsPath a c) s i) (subst (Ends e) s f))

      none : any ≡ false → (q : List Bool) → IsPath a c q → Ends e q → (weight q < weight p) ⊎ (q ≡ p) → ⊥
      none t q i f (inl w) = h.none t q i f w
      none t q i f (inr s) = none_fits (subst (IsPath a c) s i) (subst (Ends e) s f)

  pub best_worse : (p best : List Bool) (any : Bool) (cost : ℕ) → length p ≡ 6 + length c → IsTrue any → cost ≤ total c p → BestBelow a e c (weight p) any cost best → BestBelow a e c (weight p + 1) any cost best
  best_worse p best any cost l y k h = record {
    path = h.path;
    ends = h.ends;
    cost_is = h.cost_is;
    below = λ t. omega (arith, h.below t);
    first = λ t q i f w. first t q i f (same_path p q l i w);
    none = λ t q i f w. absurd (true≢false (sym y ∙ t));
  }
    where
      tie : (total c best < total c p) ⊎ (total c p ≤ total c best) → (total c best < total c p) ⊎ ((total c best ≡ total c p) × (weight best ≤ weight p))
      tie (inl w) = inl w
      tie (inr w) = inr (omega (arith, k, h.cost_is y), omega (arith, h.below y))

      first : IsTrue any → (q : List Bool) → IsPath a c q → Ends e q → (weight q < weight p) ⊎ (q ≡ p) → (total c best < total c q) ⊎ ((total c best ≡ total c q) × (weight best ≤ weight q))
      first t q i f (inl w) = h.first t q i f w
      first t q i f (inr s) = subst (λ z. (total c best < total c z) ⊎ ((total c best ≡ total c z) × (weight best ≤ weight z))) (sym s) (tie (cases_lt (total c best) (total c p)))

  pub best_new : (p best : List Bool) (any : Bool) (cost : ℕ) → IsPath a c p → Ends e p → (IsTrue any → total c p < cost) → BestBelow a e c (weight p) any cost best → BestBelow a e c (weight p + 1) true (total c p) p
  best_new p best any cost y z k h = record {
    path = λ t. y;
    ends = λ t. z;
    cost_is = λ t. refl;
    below = λ t. omega arith;
    first = λ t q i f w. first q i f (same_path p q y.long i w);
    none = λ t. absurd (true≢false t);
  }
    where
      less : (b : Bool) → any ≡ b → (q : List Bool) → IsPath a c q → Ends e q → weight q < weight p → total c p < total c q
      less true t q i f w = go (h.first t q i f w)
        where
          go : (total c best < total c q) ⊎ ((total c best ≡ total c q) × (weight best ≤ weight q)) → total c p < total c q
          go (inl v) = omega (arith, v, k t, h.cost_is t)
          go (inr v) = omega (arith, v.0, k t, h.cost_is t)
      less false t q i f w = absurd (h.none t q i f w)

      first : (q : List Bool) → IsPath a c q → Ends e q → (weight q < weight p) ⊎ (q ≡ p) → (total c p < total c q) ⊎ ((total c p ≡ total c q) × (weight p ≤ weight q))
      first q i f (inl w) = inl (less any refl q i f w)
      first q i f (inr s) = inr (sym (ap (total c) s), omega (arith, ap weight s))

  pub best_none : (best : List Bool) → BestBelow a e c 0 false 0 best
  best_none best = record {
    path = λ t. absurd (true≢false (sym t));
    ends = λ t. absurd (true≢false (sym t));
    cost_is = λ t. absurd (true≢false (sym t));
    below = λ t. absurd (true≢false (sym t));
    first = λ t. absurd (true≢false (sym t));
    none = λ t q i f w. absurd (omega arith);
  }

  pub best_first : (best : List Bool) (any : Bool) (cost k : ℕ) → 2 ^ (6 + length c) ≤ k → BestBelow a e c k any cost best → IsTrue any → IsFirst a e c best
  best_first best any cost k l h t = record {
    path = h.path t;
    ends = h.ends t;
    first = λ q i f. or_before c best q (omega (arith, (h.path t).long, i.long)) (h.first t q i f (in_all q i));
  }
    where
      in_all : (q : List Bool) → IsPath a c q → weight q < k
      in_all q i = omega (arith, l, weight-lt q, ap (λ z. 2 ^ z) i.long)

  pub best_no : (best : List Bool) (any : Bool) (cost k : ℕ) → 2 ^ (6 + length c) ≤ k → BestBelow a e c k any cost best → any ≡ false → (q : List Bool) → IsPath a c q → Ends e q → ⊥
  best_no best any cost k l h t q i f = h.none t q i f (omega (arith, l, weight-lt q, ap (λ z. 2 ^ z) i.long))

-- ---- least paths

pub first_least : (a : Option (List Bool)) (c : List CostPair) (p : List Bool) → IsFirst a None c p → Least a c p
first_least a c p h = record { path = h.path; first = λ q i. h.first q i tt }

ends_at : (e : List Bool) (c : List CostPair) (p : List Bool) → length p ≡ 6 + length c → drop (length p - 6) p ≡ drop (length c) p
ends_at e c p l = let k : length p - 6 ≡ length c = omega (arith, l) in ap (λ z. drop z p) k

pub first_least_to : (a : Option (List Bool)) (c : List CostPair) (e p : List Bool) → IsFirst a (Some e) c p → LeastTo a c e p
first_least_to a c e p h = record {
  path = h.path;
  ends = sym (ends_at e c p h.path.long) ∙ h.ends;
  first = λ q i f. h.first q i (ends_at e c q i.long ∙ f);
}

pub no_least_to : (a : Option (List Bool)) (c : List CostPair) (e : List Bool) → ((q : List Bool) → IsPath a c q → Ends (Some e) q → ⊥) → Unreached a c e
no_least_to a c e h q i f = h q i (ends_at e c q i.long ∙ f)

-- ---- totals step by step

pub total_at : (c : List CostPair) (p : List Bool) (k : ℕ) (x : CostPair) → k < length c → length p ≡ 6 + length c → x ≡ get_or c k x → total (drop k c) (drop k p) ≡ step_cost x (drop k p) + total (drop (suc k) c) (drop (suc k) p)
total_at [] p k x l n e = absurd (omega arith)
total_at (y ∷ c) [] k x l n e = absurd (omega arith)
total_at (y ∷ c) (b ∷ p) zero x l n e = ap (λ z. step_cost z (b ∷ p) + total c p) (sym e)
total_at (y ∷ c) (b ∷ p) (suc k) x l n e = total_at c p k x (omega arith) (omega arith) e

pub sum_more : (c : List CostPair) (p : List Bool) (k sum cost : ℕ) (x : CostPair) → sum + total (drop k c) (drop k p) ≡ total c p → k < length c → length p ≡ 6 + length c → x ≡ get_or c k x → cost ≡ step_cost x (drop k p) → sum + cost + total (drop (k + 1) c) (drop (k + 1) p) ≡ total c p
sum_more c p k sum cost x h l n e f =
    let m : k + 1 ≡ suc k = omega arith in
    let g = total_at c p k x l n e in
    let i : total (drop (k + 1) c) (drop (k + 1) p) ≡ total (drop (suc k) c) (drop (suc k) p) = ap (λ z. total (drop z c) (drop z p)) m in
    omega (arith, h, f, g, i)

pub zeros_taken : (n : ℕ) → n ≤ 16 → weight (take n (replicate 16 false)) ≡ 0
zeros_taken n l = ap weight (take-replicate n 16 false l) ∙ weight_zeros n

pub all_numbers : (n k : ℕ) → n ≤ 16 → 1 * 2 ^ n % 2 ^ 32 ≤ k → 2 ^ n ≤ k
all_numbers n k l h = omega (arith, h, one_shl n 32 (omega arith))

pub tail_whole : (p : List Bool) (k : ℕ) → take (length p - k) (drop k p) ≡ drop k p
tail_whole p k = take_all (length p - k) (drop k p) (omega (arith, length-drop k p))
