-- Shared bits exist, and it is decidable whether a stream is overdue.
use Rattle.std.proofs.Common.{◌≡◌, ℕ, zero, suc, ◌+◌, ◌<◌, ◌≤◌, Bool, List, [], ◌++◌, length, take, drop, ◌⊎◌, inl, inr, refl, sym, ap, ◌∙◌, subst, arith, length-append, length-take-le, take-append-drop}
use Rattle.std.proofs.lemmas.Bool.{cases_lt}
use Rattle.std.proofs.lemmas.List.{take_at}
use Rattle.std.specs.declared.option.Option.{Option}
use Rattle.code_paths.specs.declared.costs.CostPair.{CostPair}
use Rattle.code_paths.specs.Paths.{LeastTo}
use Rattle.code_paths.specs.Streams.{IsPrefix, IsCommon, Shared, IsOverdue}
use Rattle.code_paths.proofs.Unique.{least_to_unique}
use Rattle.code_paths.specs.Uniqueness.{IsStart}
use Rattle.code_paths.proofs.Deciding.{Decided, same_bit, same_list, all_bits}
use Rattle.code_paths.proofs.LeastPaths.{Reached, reached, length_end, some_least}

-- ---- prefixes

front_is : (s t : List Bool) → IsPrefix s t → take (length s) t ≡ s
front_is s t h = ap (take (length s)) h.is ∙ take_at s h.rest (length s) refl

prefix_is : (s t : List Bool) → take (length s) t ≡ s → IsPrefix s t
prefix_is s t e = record { rest = drop (length s) t; is = sym (take-append-drop (length s) t) ∙ ap (λ z. z ++ drop (length s) t) e }

is_prefix : (s t : List Bool) → Decided (IsPrefix s t)
is_prefix s t = go (same_list same_bit (take (length s) t) s)
  where
    go : Decided (take (length s) t ≡ s) → Decided (IsPrefix s t)
    go (inl e) = inl (prefix_is s t e)
    go (inr n) = inr (λ h. n (front_is s t h))

-- ---- common bits

module _ (a : Option (List Bool)) (c : List CostPair) where
  -- the bits are a prefix of the least path to an end, if there is one
  abbrev Begin : List Bool → List Bool → Type 0
  Begin s e = (p : List Bool) → LeastTo a c e p → IsPrefix s (drop 6 p)

  begin : (s e : List Bool) → Reached a c e → Decided (Begin s e)
  begin s e (inr u) = inl (λ p h. absurd (u p h.path h.ends))
  begin s e (inl h) = go (is_prefix s (drop 6 h.0))
    where
      go : Decided (IsPrefix s (drop 6 h.0)) → Decided (Begin s e)
      go (inl k) = inl (λ p i. subst (λ z. IsPrefix s (drop 6 z)) (least_to_unique a c e h.0 p h.1 i) k)
      go (inr n) = inr (λ all. n (all h.0 h.1))

  is_common : (s : List Bool) → Decided (IsCommon a c s)
  is_common s = go (all_bits 6 (Begin s) (λ e l. begin s e (reached a c e l)))
    where
      go : Decided ((e : List Bool) → length e ≡ 6 → Begin s e) → Decided (IsCommon a c s)
      go (inl all) = inl (λ e p h. all e (ap length (sym h.ends) ∙ length_end a c p h.path) p h)
      go (inr n) = inr (λ common. n (λ e l. common e))

  -- the longest common prefix of the least path to some end
  longest : (e p : List Bool) → LeastTo a c e p → (k : ℕ) → k ≤ length (drop 6 p) → ((j : ℕ) → k < j → j ≤ length (drop 6 p) → IsCommon a c (take j (drop 6 p)) → ⊥) → (s : List Bool) × Shared a c s
  longest e p h zero l none = (
    [],
    record {
      common = λ e q i. record { rest = drop 6 q; is = refl };
      longest = λ r common. go r common (cases_lt 0 (length r));
    },
  )
    where
      go : (r : List Bool) → IsCommon a c r → (0 < length r) ⊎ (length r ≤ 0) → length r ≤ 0
      go r common (inr m) = m
      go r common (inl m) =
          let t = drop 6 p in
          let i = common e p h in
          absurd (none (length r) m (omega (arith, ap length i.is, length-append r i.rest)) (subst (IsCommon a c) (sym (front_is r t i)) common))
  longest e p h (suc k) l none = go (is_common (take (suc k) (drop 6 p))) (λ n. longest e p h k (omega (arith, l)) (λ j m q. below n j (cases_lt (suc k) j) m q))
    where
      below : (IsCommon a c (take (suc k) (drop 6 p)) → ⊥) → (j : ℕ) → (suc k < j) ⊎ (j ≤ suc k) → k < j → j ≤ length (drop 6 p) → IsCommon a c (take j (drop 6 p)) → ⊥
      below n j (inl m) g q common = none j m q common
      below n j (inr m) g q common = let e : j ≡ suc k = omega (arith, m, g) in n (subst (λ z. IsCommon a c (take z (drop 6 p))) e common)

      length_is : length (take (suc k) (drop 6 p)) ≡ suc k
      length_is = length-take-le (suc k) (drop 6 p) l

      most : (r : List Bool) → IsCommon a c r → (suc k < length r) ⊎ (length r ≤ suc k) → length r ≤ length (take (suc k) (drop 6 p))
      most r common (inr m) = omega (arith, m, length_is)
      most r common (inl m) =
          let i = common e p h in
          absurd (none (length r) m (omega (arith, ap length i.is, length-append r i.rest)) (subst (IsCommon a c) (sym (front_is r (drop 6 p) i)) common))

      go : Decided (IsCommon a c (take (suc k) (drop 6 p))) → ((IsCommon a c (take (suc k) (drop 6 p)) → ⊥) → (s : List Bool) × Shared a c s) → (s : List Bool) × Shared a c s
      go (inl common) rest = (take (suc k) (drop 6 p), record { common = common; longest = λ r other. most r other (cases_lt (suc k) (length r)) })
      go (inr n) rest = rest n

  pub shared_is : IsStart a → (s : List Bool) × Shared a c s
  shared_is start = let h = some_least a c start in longest h.0 h.1 h.2 (length (drop 6 h.1)) (omega arith) (λ j l m. absurd (omega (arith, l, m)))

  pub is_overdue : (most : ℕ) → IsStart a → Decided (IsOverdue most a c)
  is_overdue most start = let s = shared_is start in go s.0 s.1 (cases_lt (most + length s.0) (length c))
    where
      go : (s : List Bool) → Shared a c s → (most + length s < length c) ⊎ (length c ≤ most + length s) → Decided (IsOverdue most a c)
      go s h (inl l) = inl (record { shared = s; is_shared = h; over = l })
      go s h (inr l) = inr (λ o. absurd (omega (arith, l, o.over, o.is_shared.longest s h.common)))
