-- Least paths exist.
use Rattle.std.proofs.Common.{◌≡◌, ℕ, zero, suc, ◌+◌, ◌<◌, ◌≤◌, Bool, true, false, List, [], ◌∷◌, ◌++◌, length, take, drop, ◌⊎◌, inl, inr, refl, sym, ap, ◌∙◌, subst, arith, length-append, length-drop}
use Rattle.std.specs.Prelude.{replicate}
use Rattle.std.proofs.lemmas.Bool.{cases_lt}
use Rattle.std.proofs.lemmas.List.{length-replicate, take_at}
use Rattle.std.specs.declared.option.Option.{Option}
use Rattle.std.specs.declared.option.Option.TheVariants.{None, Some}
use Rattle.code_paths.specs.declared.costs.CostPair.{CostPair}
use Rattle.code_paths.specs.Paths.{total, IsPath, LeastTo, Least, Unreached}
use Rattle.code_paths.specs.Laws.{longer_total, ExtendsTo}
use Rattle.code_paths.specs.Trial.{weight}
use Rattle.code_paths.proofs.Order.{NotAfter, or_before, not_after}
use Rattle.code_paths.proofs.Extend.{paths_extend}
use Rattle.code_paths.specs.Uniqueness.{IsStart}
use Rattle.code_paths.proofs.Deciding.{Decided, same_bit, same_list, last_of, from_end}

-- an end is reached by a least path, or by none
abbrev pub Reached : Option (List Bool) → List CostPair → List Bool → Type 0
Reached a c e = ((p : List Bool) × LeastTo a c e p) ⊎ Unreached a c e

-- ---- before the first step

begins : (e r : List Bool) → length e ≡ 6 → Decided (take 6 e ≡ r)
begins e r l = same_list same_bit (take 6 e) r

reached_first : (a : Option (List Bool)) (e : List Bool) → length e ≡ 6 → Reached a [] e
reached_first None e l = inl (e, record { path = record { long = l; start = tt }; ends = refl; first = λ q k f. inl (sym f) })
reached_first (Some r) e l = go (begins e r l)
  where
    go : Decided (take 6 e ≡ r) → Reached (Some r) [] e
    go (inl s) = inl (e, record { path = record { long = l; start = s }; ends = refl; first = λ q k f. inl (sym f) })
    go (inr n) = inr (λ q k f. n (ap (take 6) (sym f) ∙ k.start))

-- ---- one more step

reached_next : (a : Option (List Bool)) (c : List CostPair) (x : CostPair) (m : List Bool) (b : Bool) → Reached a c (false ∷ m) → Reached a c (true ∷ m) → Reached a (c ++ x ∷ []) (m ++ b ∷ [])
reached_next a c x m b even odd = go even odd
  where
    step : ExtendsTo a c x m b
    step = paths_extend a c x m b

    better : (p q : List Bool) → LeastTo a c (false ∷ m) p → LeastTo a c (true ∷ m) q
        → (longer_total c x q true m b < longer_total c x p false m b) ⊎ (longer_total c x p false m b ≤ longer_total c x q true m b) → Reached a (c ++ x ∷ []) (m ++ b ∷ [])
    better p q h k (inl less) = inl (q ++ b ∷ [], step.odd p q h k less)
    better p q h k (inr less) = inl (p ++ b ∷ [], step.even p q h k less)

    go : Reached a c (false ∷ m) → Reached a c (true ∷ m) → Reached a (c ++ x ∷ []) (m ++ b ∷ [])
    go (inl h) (inl k) = better h.0 k.0 h.1 k.1 (cases_lt (longer_total c x k.0 true m b) (longer_total c x h.0 false m b))
    go (inl h) (inr k) = inl (h.0 ++ b ∷ [], step.only false h.0 h.1 k)
    go (inr h) (inl k) = inl (k.0 ++ b ∷ [], step.only true k.0 k.1 h)
    go (inr h) (inr k) = inr (step.none h k)

pub reached : (a : Option (List Bool)) (c : List CostPair) (e : List Bool) → length e ≡ 6 → Reached a c e
reached a c e l = from_end (λ c. (e : List Bool) → length e ≡ 6 → Reached a c e) (reached_first a) more c e l
  where
    more : (c : List CostPair) (x : CostPair) → ((e : List Bool) → length e ≡ 6 → Reached a c e) → (e : List Bool) → length e ≡ 6 → Reached a (c ++ x ∷ []) e
    more c x all e l =
        let r = last_of 5 e l in
        subst (Reached a (c ++ x ∷ [])) (sym r.2)
        (reached_next a c x r.0 r.1 (all (false ∷ r.0) (ap suc r.3)) (all (true ∷ r.0) (ap suc r.3)))

-- ---- a path

pub some_path : (a : Option (List Bool)) (c : List CostPair) → IsStart a → (p : List Bool) × IsPath a c p
some_path None c s = (replicate (6 + length c) false, record { long = length-replicate (6 + length c) false; start = tt })
some_path (Some r) c s =
    let zeros = replicate (length c) false in (
      r ++ zeros,
      record { long = omega (arith, length-append r zeros, length-replicate (length c) false, s); start = take_at r zeros 6 s },
    )

pub length_end : (a : Option (List Bool)) (c : List CostPair) (p : List Bool) → IsPath a c p → length (drop (length c) p) ≡ 6
length_end a c p h = omega (arith, length-drop (length c) p, h.long)

-- the least path to some end
pub some_least : (a : Option (List Bool)) (c : List CostPair) → IsStart a → (e : List Bool) × (p : List Bool) × LeastTo a c e p
some_least a c s = let q = some_path a c s in go q.0 q.1 (reached a c (drop (length c) q.0) (length_end a c q.0 q.1))
  where
    go : (q : List Bool) → IsPath a c q → Reached a c (drop (length c) q) → (e : List Bool) × (p : List Bool) × LeastTo a c e p
    go q k (inl h) = (drop (length c) q, h.0, h.1)
    go q k (inr n) = absurd (n q k refl)

-- ---- the least of all

either_first : (c : List CostPair) (p q : List Bool) → NotAfter c p q ⊎ NotAfter c q p
either_first c p q = go (cases_lt (total c p) (total c q)) (cases_lt (total c q) (total c p)) (cases_lt (weight p) (weight q))
  where
    go : (total c p < total c q) ⊎ (total c q ≤ total c p) → (total c q < total c p) ⊎ (total c p ≤ total c q) → (weight p < weight q) ⊎ (weight q ≤ weight p) → NotAfter c p q ⊎ NotAfter c q p
    go (inl l) k w = inl (inl l)
    go (inr l) (inl k) w = inr (inl k)
    go (inr l) (inr k) (inl w) = inl (inr (omega (arith, l, k), omega (arith, w)))
    go (inr l) (inr k) (inr w) = inr (inr (omega (arith, l, k), w))

first_again : (c : List CostPair) (p q r : List Bool) → NotAfter c p q → NotAfter c q r → NotAfter c p r
first_again c p q r (inl h) (inl k) = inl (omega (arith, h, k))
first_again c p q r (inl h) (inr k) = inl (omega (arith, h, k.0))
first_again c p q r (inr h) (inl k) = inl (omega (arith, h.0, k))
first_again c p q r (inr h) (inr k) = inr (omega (arith, h.0, k.0), omega (arith, h.1, k.1))

-- p is not after any path to the ends for these lists of n bits
record IsBest (a : Option (List Bool)) (c : List CostPair) (n : ℕ) (at : List Bool → List Bool) (p : List Bool) : Type 0 where
  path : IsPath a c p
  best : (e : List Bool) → length e ≡ n → (q : List Bool) → IsPath a c q → drop (length c) q ≡ at e → NotAfter c p q

abbrev NoneTo : Option (List Bool) → List CostPair → ℕ → (List Bool → List Bool) → Type 0
NoneTo a c n at = (e : List Bool) → length e ≡ n → Unreached a c (at e)

abbrev BestTo : Option (List Bool) → List CostPair → ℕ → (List Bool → List Bool) → Type 0
BestTo a c n at = ((p : List Bool) × IsBest a c n at p) ⊎ NoneTo a c n at

best_to : (a : Option (List Bool)) (c : List CostPair) (n : ℕ) (at : List Bool → List Bool) → ((e : List Bool) → length e ≡ n → length (at e) ≡ 6) → BestTo a c n at
best_to a c zero at six = go (reached a c (at []) (six [] refl))
  where
    only : (p : List Bool) → LeastTo a c (at []) p → (e : List Bool) → length e ≡ 0 → (q : List Bool) → IsPath a c q → drop (length c) q ≡ at e → NotAfter c p q
    only p h [] l q k f = not_after c p q (h.path.long ∙ sym k.long) (h.first q k f)
    only p h (b ∷ e) l q k f = absurd (omega arith)

    none : Unreached a c (at []) → (e : List Bool) → length e ≡ 0 → Unreached a c (at e)
    none u [] l = u
    none u (b ∷ e) l = absurd (omega arith)

    go : Reached a c (at []) → BestTo a c 0 at
    go (inl h) = inl (h.0, record { path = h.1.path; best = only h.0 h.1 })
    go (inr u) = inr (none u)
best_to a c (suc n) at six =
    go (best_to a c n (λ e. at (true ∷ e)) (λ e l. six (true ∷ e) (ap suc l))) (best_to a c n (λ e. at (false ∷ e)) (λ e l. six (false ∷ e) (ap suc l)))
  where
    both : (p : List Bool) → ((e : List Bool) → length e ≡ n → (q : List Bool) → IsPath a c q → drop (length c) q ≡ at (true ∷ e) → NotAfter c p q)
        → ((e : List Bool) → length e ≡ n → (q : List Bool) → IsPath a c q → drop (length c) q ≡ at (false ∷ e) → NotAfter c p q)
        → (e : List Bool) → length e ≡ suc n → (q : List Bool) → IsPath a c q → drop (length c) q ≡ at e → NotAfter c p q
    both p f g [] l q k i = absurd (omega arith)
    both p f g (true ∷ e) l q k i = f e (omega arith) q k i
    both p f g (false ∷ e) l q k i = g e (omega arith) q k i

    none : NoneTo a c n (λ e. at (true ∷ e)) → NoneTo a c n (λ e. at (false ∷ e)) → NoneTo a c (suc n) at
    none u v [] l = absurd (omega arith)
    none u v (true ∷ e) l = u e (omega arith)
    none u v (false ∷ e) l = v e (omega arith)

    better : (p q : List Bool) → IsBest a c n (λ e. at (true ∷ e)) p → IsBest a c n (λ e. at (false ∷ e)) q → NotAfter c p q ⊎ NotAfter c q p → (p : List Bool) × IsBest a c (suc n) at p
    better p q h k (inl f) = (p, record { path = h.path; best = both p h.best (λ e l r i g. first_again c p q r f (k.best e l r i g)) })
    better p q h k (inr f) = (q, record { path = k.path; best = both q (λ e l r i g. first_again c q p r f (h.best e l r i g)) k.best })

    go : BestTo a c n (λ e. at (true ∷ e)) → BestTo a c n (λ e. at (false ∷ e)) → BestTo a c (suc n) at
    go (inl h) (inl k) = inl (better h.0 k.0 h.1 k.1 (either_first c h.0 k.0))
    go (inl h) (inr v) = inl (h.0, record { path = h.1.path; best = both h.0 h.1.best (λ e l q k f. absurd (v e l q k f)) })
    go (inr u) (inl k) = inl (k.0, record { path = k.1.path; best = both k.0 (λ e l q i f. absurd (u e l q i f)) k.1.best })
    go (inr u) (inr v) = inr (none u v)

pub least_is : (a : Option (List Bool)) (c : List CostPair) → IsStart a → (p : List Bool) × Least a c p
least_is a c s = go (best_to a c 6 (λ e. e) (λ e l. l))
  where
    go : BestTo a c 6 (λ e. e) → (p : List Bool) × Least a c p
    go (inl h) = (h.0, record { path = h.1.path; first = λ q k. or_before c h.0 q (h.1.path.long ∙ sym k.long) (h.1.best (drop (length c) q) (length_end a c q k) q k refl) })
    go (inr u) = let q = some_path a c s in absurd (u (drop (length c) q.0) (length_end a c q.0 q.1) q.0 q.1 refl)
