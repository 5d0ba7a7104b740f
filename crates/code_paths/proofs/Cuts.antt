-- How the parts of a stream grow.
use Rattle.std.proofs.Common.{◌≡◌, ℕ, ◌+◌, ◌<◌, ◌≤◌, Bool, List, [], ◌∷◌, ◌++◌, length, take, drop, ◌⊎◌, inl, inr, refl, sym, ap, ap₂, ◌∙◌, subst, subst₂, arith, length-append, append_assoc, append-nil}
use Rattle.std.proofs.lemmas.Bool.{cases_lt, cases_order}
use Rattle.std.proofs.lemmas.List.{take-append-le, take_all, take_at, drop_at}
use Rattle.std.specs.declared.option.Option.{Option}
use Rattle.std.specs.declared.option.Option.TheVariants.{Some}
use Rattle.code_paths.specs.declared.costs.CostPair.{CostPair}
use Rattle.code_paths.specs.Paths.{Least}
use Rattle.code_paths.proofs.Unique.{least_unique}
use Rattle.code_paths.specs.Streams.{IsOverdue, IsQuiet, Part, end_of, IsPart, IsCut}

quiet_before : (most : ℕ) (a : Option (List Bool)) (c : List CostPair) (x : CostPair) → IsQuiet most a c (length c + 1) → IsQuiet most a (c ++ x ∷ []) (length c + 1)
quiet_before most a c x q t l o = q t l (subst (IsOverdue most a) (take-append-le t c (x ∷ []) (omega arith)) o)

quiet_more : (most : ℕ) (a : Option (List Bool)) (c : List CostPair) (x : CostPair) → IsQuiet most a c (length c + 1) → (IsOverdue most a (c ++ x ∷ []) → ⊥) → IsQuiet most a (c ++ x ∷ []) (length (c ++ x ∷ []) + 1)
quiet_more most a c x q n t l o = go (cases_lt t (length c + 1))
  where
    go : (t < length c + 1) ⊎ (length c + 1 ≤ t) → ⊥
    go (inl m) = quiet_before most a c x q t m o
    go (inr m) = n (subst (IsOverdue most a) (take_all t (c ++ x ∷ []) (omega (arith, length-append c (x ∷ [])))) o)

-- the open part continues
pub cut_more : (most : ℕ) (a : Option (List Bool)) (c : List CostPair) (x : CostPair) (parts : List Part) (b : Option (List Bool)) (d : List CostPair)
    → IsCut most a c parts b d → (IsOverdue most b (d ++ x ∷ []) → ⊥) → IsCut most a (c ++ x ∷ []) parts b (d ++ x ∷ [])
cut_more most a c x [] b d k n =
    (k.0, ap (λ z. z ++ x ∷ []) k.1, quiet_more most a c x k.2 (λ o. n (subst₂ (λ u v. IsOverdue most u (v ++ x ∷ [])) (sym k.0) (sym k.1) o)))
cut_more most a c x (part ∷ parts) b d k n =
    (k.0 ++ x ∷ [], ap (λ z. z ++ x ∷ []) k.1 ∙ append_assoc part.costs k.0 (x ∷ []), k.2, cut_more most (Some (end_of part)) k.0 x parts b d k.3 n)

pub quiet_none : (most : ℕ) (a : Option (List Bool)) → IsQuiet most a [] 1
quiet_none most a t l o = let e : t ≡ 0 = omega arith in absurd (omega (arith, (subst (λ k. IsOverdue most a (take k [])) e o).over))

last_part : (most : ℕ) (a b : Option (List Bool)) (d : List CostPair) (x : CostPair) (p : List Bool) → b ≡ a → IsQuiet most a d (length d + 1) → IsOverdue most b (d ++ x ∷ []) → Least b (d ++ x ∷ []) p → IsPart most a (record { costs = d ++ x ∷ []; path = p })
last_part most a b d x p e q o l = record {
  quiet = λ t m. quiet_before most a d x q t (omega (arith, length-append d (x ∷ [])));
  over = subst (λ z. IsOverdue most z (d ++ x ∷ [])) e o;
  least = subst (λ z. Least z (d ++ x ∷ []) p) e l;
}

-- the open part ends
pub cut_end : (most : ℕ) (a : Option (List Bool)) (c : List CostPair) (x : CostPair) (parts : List Part) (b : Option (List Bool)) (d : List CostPair) (p : List Bool)
    → IsCut most a c parts b d → IsOverdue most b (d ++ x ∷ []) → Least b (d ++ x ∷ []) p
    → IsCut most a (c ++ x ∷ []) (parts ++ (record { costs = d ++ x ∷ []; path = p }) ∷ []) (Some (drop (length (d ++ x ∷ [])) p)) []
cut_end most a c x [] b d p k o l =
    ([], sym (append-nil _ ∙ ap (λ z. z ++ x ∷ []) k.1), last_part most a b d x p k.0 (subst (λ z. IsQuiet most a z (length z + 1)) (sym k.1) k.2) o l, (refl, refl, quiet_none most _))
cut_end most a c x (part ∷ parts) b d p k o l =
    (k.0 ++ x ∷ [], ap (λ z. z ++ x ∷ []) k.1 ∙ append_assoc part.costs k.0 (x ∷ []), k.2, cut_end most (Some (end_of part)) k.0 x parts b d p k.3 o l)

-- ---- a stream has one division into parts

pub no_part : (most : ℕ) (a : Option (List Bool)) (c : List CostPair) (part : Part) (rest : List CostPair) → IsQuiet most a c (length c + 1) → c ≡ part.costs ++ rest → IsPart most a part → ⊥
no_part most a c part rest q e p =
    q (length part.costs) (omega (arith, ap length e, length-append part.costs rest))
    (subst (IsOverdue most a) (sym (ap (take (length part.costs)) e ∙ take_at part.costs rest (length part.costs) refl)) p.over)

not_shorter : (most : ℕ) (a : Option (List Bool)) (p q : Part) (r s : List CostPair) → p.costs ++ r ≡ q.costs ++ s → IsPart most a p → IsPart most a q → length p.costs < length q.costs → ⊥
not_shorter most a p q r s e h k l =
    k.quiet (length p.costs) l
    (subst (IsOverdue most a) (sym (sym (take-append-le (length p.costs) q.costs s (omega arith)) ∙ ap (take (length p.costs)) (sym e) ∙ take_at p.costs r (length p.costs) refl)) h.over)

same_length : (most : ℕ) (a : Option (List Bool)) (p q : Part) (r s : List CostPair) → p.costs ++ r ≡ q.costs ++ s → IsPart most a p → IsPart most a q → length p.costs ≡ length q.costs
same_length most a p q r s e h k = go (cases_order (length p.costs) (length q.costs))
  where
    go : (length p.costs ≡ length q.costs) ⊎ ((length p.costs < length q.costs) ⊎ (length q.costs < length p.costs)) → length p.costs ≡ length q.costs
    go (inl l) = l
    go (inr (inl l)) = absurd (not_shorter most a p q r s e h k l)
    go (inr (inr l)) = absurd (not_shorter most a q p s r (sym e) k h l)

pub same_costs : (most : ℕ) (a : Option (List Bool)) (p q : Part) (r s : List CostPair) → p.costs ++ r ≡ q.costs ++ s → IsPart most a p → IsPart most a q → p.costs ≡ q.costs
same_costs most a p q r s e h k =
    sym (take_at p.costs r (length p.costs) refl) ∙ ap₂ (λ n z. take n z) (same_length most a p q r s e h k) e ∙ take_at q.costs s (length q.costs) refl

pub same_rest : (most : ℕ) (a : Option (List Bool)) (p q : Part) (r s : List CostPair) → p.costs ++ r ≡ q.costs ++ s → IsPart most a p → IsPart most a q → r ≡ s
same_rest most a p q r s e h k =
    sym (drop_at p.costs r (length p.costs) refl) ∙ ap₂ (λ n z. drop n z) (same_length most a p q r s e h k) e ∙ drop_at q.costs s (length q.costs) refl

pub same_part : (most : ℕ) (a : Option (List Bool)) (p q : Part) → p.costs ≡ q.costs → IsPart most a p → IsPart most a q → p ≡ q
same_part most a p q e h k =
    let f : p.path ≡ q.path = least_unique a q.costs p.path q.path (subst (λ z. Least a z p.path) e h.least) k.least in
    λ i. record { costs = e i; path = f i }

pub cut_unique : (most : ℕ) (a : Option (List Bool)) (c : List CostPair) (parts : List Part) (b : Option (List Bool)) (d : List CostPair) (parts2 : List Part) (b2 : Option (List Bool)) (d2 : List CostPair)
    → IsCut most a c parts b d → IsCut most a c parts2 b2 d2 → (parts ≡ parts2) × (b ≡ b2) × (d ≡ d2)
cut_unique most a c [] b d [] b2 d2 h k = (refl, h.0 ∙ sym k.0, h.1 ∙ sym k.1)
cut_unique most a c [] b d (p ∷ ps) b2 d2 h k = absurd (no_part most a c p k.0 h.2 k.1 k.2)
cut_unique most a c (p ∷ ps) b d [] b2 d2 h k = absurd (no_part most a c p h.0 k.2 h.1 h.2)
cut_unique most a c (p ∷ ps) b d (q ∷ qs) b2 d2 h k =
    let e : p.costs ++ h.0 ≡ q.costs ++ k.0 = sym h.1 ∙ k.1 in
    let f : p ≡ q = same_part most a p q (same_costs most a p q h.0 k.0 e h.2 k.2) h.2 k.2 in
    let r : h.0 ≡ k.0 = same_rest most a p q h.0 k.0 e h.2 k.2 in
    let w = cut_unique most (Some (end_of q)) k.0 ps b d qs b2 d2 (subst₂ (λ x y. IsCut most (Some (end_of x)) y ps b d) f r h.3) k.3 in
    (ap₂ (λ x xs. x ∷ xs) f w.0, w.1, w.2)
