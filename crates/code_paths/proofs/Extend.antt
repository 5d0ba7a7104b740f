-- The order extends through a step.
use Rattle.std.proofs.Common.{◌≡◌, ℕ, zero, suc, ◌+◌, ◌*◌, ◌^◌, ◌<◌, ◌≤◌, Bool, true, false, not, List, [], ◌∷◌, ◌++◌, length, take, drop, ◌⊎◌, inl, inr, refl, sym, ap, ◌∙◌, subst, arith, length-append, length-drop, take-append-drop, length-take-le}
use Rattle.std.proofs.lemmas.List.{get_or_append_left, take-append-le, same_from_push}
use Rattle.std.proofs.lemmas.Bool.{cases_lt}
use Rattle.std.specs.declared.option.Option.{Option}
use Rattle.std.specs.declared.option.Option.TheVariants.{None, Some}
use Rattle.code_paths.specs.declared.costs.CostPair.{CostPair}
use Rattle.spec_words.specs.Bits.{bit}
use Rattle.code_paths.specs.Paths.{total, step_cost, Before, IsPath, Starts, LeastTo}
use Rattle.code_paths.specs.Paths.{Unreached}
use Rattle.code_paths.specs.Laws.{longer_total, ExtendsTo}
use Rattle.code_paths.specs.Trial.{weight}
use Rattle.code_paths.proofs.Order.{weight-lt, weight-append, NotAfter, not_after, or_before}

-- a step reads only the first seven bits
pub step_front : (x : CostPair) (p q : List Bool) → 7 ≤ length p → step_cost x (p ++ q) ≡ step_cost x p
step_front x p q l =
    let f : (k : ℕ) → k < 7 → bit (p ++ q) k ≡ bit p k = λ k h. get_or_append_left p q false k (omega arith) in
    rw (f 6 (omega arith), f 5 (omega arith), f 4 (omega arith), f 3 (omega arith), f 1 (omega arith), f 0 (omega arith))

pub total_push : (c : List CostPair) (x : CostPair) (p : List Bool) (b : Bool) → length p ≡ 6 + length c → total (c ++ x ∷ []) (p ++ b ∷ []) ≡ total c p + step_cost x (drop (length c) p ++ b ∷ [])
total_push [] x p b l = omega arith
total_push (y ∷ c) x [] b l = absurd (omega arith)
total_push (y ∷ c) x (a ∷ p) b l =
    omega (arith, total_push c x p b (omega arith), step_front y (a ∷ p) (b ∷ []) (omega arith))

split_last : (n : ℕ) (q : List Bool) → length q ≡ suc n → (f : List Bool) × (b : Bool) × (q ≡ f ++ b ∷ []) × (length f ≡ n)
split_last n [] l = absurd (omega arith)
split_last zero (b ∷ []) l = ([], b, refl, refl)
split_last zero (b ∷ c ∷ q) l = absurd (omega arith)
split_last (suc n) (b ∷ []) l = absurd (omega arith)
split_last (suc n) (b ∷ c ∷ q) l =
    let r = split_last n (c ∷ q) (omega arith) in (b ∷ r.0, r.1, ap (λ z. b ∷ z) r.2, omega (arith, r.3))

starts_push : (a : Option (List Bool)) (p : List Bool) (b : Bool) → 6 ≤ length p → Starts a p → Starts a (p ++ b ∷ [])
starts_push None p b l s = s
starts_push (Some r) p b l s = take-append-le 6 p (b ∷ []) l ∙ s

starts_pop : (a : Option (List Bool)) (p : List Bool) (b : Bool) → 6 ≤ length p → Starts a (p ++ b ∷ []) → Starts a p
starts_pop None p b l s = s
starts_pop (Some r) p b l s = sym (take-append-le 6 p (b ∷ []) l) ∙ s

pub path_push : (a : Option (List Bool)) (c : List CostPair) (x : CostPair) (p : List Bool) (b : Bool) → IsPath a c p → IsPath a (c ++ x ∷ []) (p ++ b ∷ [])
path_push a c x p b h = record {
  long = omega (arith, h.long, length-append p (b ∷ []), length-append c (x ∷ []));
  start = starts_push a p b (omega (arith, h.long)) h.start;
}

-- a path over one more step is a path and a bit
pub record Longer (a : Option (List Bool)) (c : List CostPair) (q : List Bool) : Type 0 where
  pub front : List Bool
  pub last : Bool
  pub is : q ≡ front ++ last ∷ []
  pub path : IsPath a c front

pub path_pop : (a : Option (List Bool)) (c : List CostPair) (x : CostPair) (q : List Bool) → IsPath a (c ++ x ∷ []) q → Longer a c q
path_pop a c x q h =
    let r = split_last (6 + length c) q (omega (arith, h.long, length-append c (x ∷ []))) in
    record {
      front = r.0;
      last = r.1;
      is = r.2;
      path = record { long = r.3; start = starts_pop a r.0 r.1 (omega (arith, r.3)) (subst (Starts a) r.2 h.start) };
    }

-- the last six bits of a path over one more step
pub ends_push : (c : List CostPair) (x : CostPair) (p : List Bool) (b : Bool) → length p ≡ 6 + length c → drop (length (c ++ x ∷ [])) (p ++ b ∷ []) ≡ drop 1 (drop (length c) p) ++ b ∷ []
ends_push [] x [] b l = absurd (omega arith)
ends_push [] x (a ∷ p) b l = refl
ends_push (y ∷ c) x [] b l = absurd (omega arith)
ends_push (y ∷ c) x (a ∷ p) b l = ends_push c x p b (omega arith)

-- a longer path to m and b extends a path to one of the two registers z and m
pub record From (a : Option (List Bool)) (c : List CostPair) (m : List Bool) (b : Bool) (q : List Bool) : Type 0 where
  pub front : List Bool
  pub oldest : Bool
  pub is : q ≡ front ++ b ∷ []
  pub path : IsPath a c front
  pub ends : drop (length c) front ≡ oldest ∷ m

head_and : (r : List Bool) → 1 ≤ length r → (z : Bool) × (r ≡ z ∷ drop 1 r)
head_and [] l = absurd (omega arith)
head_and (z ∷ r) l = (z, refl)

pub from_one : (a : Option (List Bool)) (c : List CostPair) (x : CostPair) (m : List Bool) (b : Bool) (q : List Bool) → IsPath a (c ++ x ∷ []) q → drop (length (c ++ x ∷ [])) q ≡ m ++ b ∷ [] → From a c m b q
from_one a c x m b q h e =
    let g = path_pop a c x q h in
    let u = sym (ends_push c x g.front g.last g.path.long) ∙ ap (drop (length (c ++ x ∷ []))) (sym g.is) ∙ e in
    let v = same_from_push _ _ _ _ u in
    let w = head_and (drop (length c) g.front) (omega (arith, length-drop (length c) g.front, g.path.long)) in
    record { front = g.front; oldest = w.0; is = g.is ∙ ap (λ z. g.front ++ z ∷ []) v.1; path = g.path; ends = w.1 ∙ ap (λ z. w.0 ∷ z) v.0 }

-- p to z and m is at least as good as q to y and m, over one more step
abbrev pub NoWorse : List CostPair → CostPair → List Bool → Bool → List Bool → Bool → Bool → List Bool → Type 0
NoWorse c x m b p z y q = (longer_total c x p z m b < longer_total c x q y m b) ⊎ ((longer_total c x p z m b ≡ longer_total c x q y m b) × (weight p ≤ weight q))

longer_is : (c : List CostPair) (x : CostPair) (p : List Bool) (z : Bool) (m : List Bool) (b : Bool) → length p ≡ 6 + length c → drop (length c) p ≡ z ∷ m → total (c ++ x ∷ []) (p ++ b ∷ []) ≡ longer_total c x p z m b
longer_is c x p z m b l e = total_push c x p b l ∙ ap (λ r. total c p + step_cost x (r ++ b ∷ [])) e

weight_push : (p q : List Bool) (b : Bool) → length p ≡ length q → weight p ≤ weight q → weight (p ++ b ∷ []) ≤ weight (q ++ b ∷ [])
weight_push p q b l h =
    let e : 2 ^ length p * weight (b ∷ []) ≡ 2 ^ length q * weight (b ∷ []) = ap (λ n. 2 ^ n * weight (b ∷ [])) l in
    omega (arith, weight-append p (b ∷ []), weight-append q (b ∷ []))

-- the least path to m and b over one more step
pub least_push : (a : Option (List Bool)) (c : List CostPair) (x : CostPair) (m : List Bool) (b z : Bool) (p : List Bool) → IsPath a c p → drop (length c) p ≡ z ∷ m
    → ((y : Bool) (q : List Bool) → IsPath a c q → drop (length c) q ≡ y ∷ m → NoWorse c x m b p z y q)
    → LeastTo a (c ++ x ∷ []) (m ++ b ∷ []) (p ++ b ∷ [])
least_push a c x m b z p h e best = record {
  path = path_push a c x p b h;
  ends = ends_push c x p b h.long ∙ ap (λ r. drop 1 r ++ b ∷ []) e;
  first = λ q k f. go q (from_one a c x m b q k f);
}
  where
    compare : (q : List Bool) (y : Bool) → IsPath a c q → drop (length c) q ≡ y ∷ m → NoWorse c x m b p z y q → NotAfter (c ++ x ∷ []) (p ++ b ∷ []) (q ++ b ∷ [])
    compare q y k f (inl h1) = inl (omega (arith, longer_is c x p z m b h.long e, longer_is c x q y m b k.long f))
    compare q y k f (inr h1) = inr (omega (arith, h1.0, longer_is c x p z m b h.long e, longer_is c x q y m b k.long f), weight_push p q b (omega (arith, h.long, k.long)) h1.1)

    go : (q : List Bool) → From a c m b q → (p ++ b ∷ [] ≡ q) ⊎ Before (c ++ x ∷ []) (p ++ b ∷ []) q
    go q g = subst (λ r. (p ++ b ∷ [] ≡ r) ⊎ Before (c ++ x ∷ []) (p ++ b ∷ []) r) (sym g.is)
        (or_before (c ++ x ∷ []) (p ++ b ∷ []) (g.front ++ b ∷ []) (omega (arith, length-append p (b ∷ []), length-append g.front (b ∷ []), h.long, g.path.long))
        (compare g.front g.oldest g.path g.ends (best g.oldest g.front g.path g.ends)))

-- ---- the choice between the two ways

-- two paths that end alike except for the oldest bit
even_first : (n : ℕ) (p q m : List Bool) → length p ≡ length q → n ≤ length p → drop n p ≡ false ∷ m → drop n q ≡ true ∷ m → weight p ≤ weight q
even_first n p q m l k e f =
    let u : weight p ≡ weight (take n p) + 2 ^ length (take n p) * weight (false ∷ m) = ap weight (sym (take-append-drop n p)) ∙ weight-append (take n p) (drop n p) ∙ ap (λ r. weight (take n p) + 2 ^ length (take n p) * weight r) e in
    let v : weight q ≡ weight (take n q) + 2 ^ length (take n q) * weight (true ∷ m) = ap weight (sym (take-append-drop n q)) ∙ weight-append (take n q) (drop n q) ∙ ap (λ r. weight (take n q) + 2 ^ length (take n q) * weight r) f in
    let i : length (take n p) ≡ n = length-take-le n p k in
    let j : length (take n q) ≡ n = length-take-le n q (omega arith) in
    let u' : weight p ≡ weight (take n p) + 2 ^ n * weight (false ∷ m) = u ∙ ap (λ z. weight (take n p) + 2 ^ z * weight (false ∷ m)) i in
    let v' : weight q ≡ weight (take n q) + 2 ^ n * weight (true ∷ m) = v ∙ ap (λ z. weight (take n q) + 2 ^ z * weight (true ∷ m)) j in
    let s : weight (take n p) < 2 ^ n = subst (λ z. weight (take n p) < 2 ^ z) i (weight-lt (take n p)) in
    omega (arith, u', v', s)

total_le : (c : List CostPair) (p q : List Bool) → NotAfter c p q → total c p ≤ total c q
total_le c p q (inl h) = omega arith
total_le c p q (inr h) = omega (arith, h.0)

-- paths to one register
same_way : (c : List CostPair) (x : CostPair) (m : List Bool) (b : Bool) (z : Bool) (p r : List Bool) → NotAfter c p r → NoWorse c x m b p z z r
same_way c x m b z p r (inl h) = inl (omega arith)
same_way c x m b z p r (inr h) = inr (omega (arith, h.0), h.1)

-- with two ways the even one is taken, unless the odd one costs less
pub even_wins : (a : Option (List Bool)) (c : List CostPair) (x : CostPair) (m : List Bool) (b : Bool) (p q : List Bool) → LeastTo a c (false ∷ m) p → LeastTo a c (true ∷ m) q → longer_total c x p false m b ≤ longer_total c x q true m b → LeastTo a (c ++ x ∷ []) (m ++ b ∷ []) (p ++ b ∷ [])
even_wins a c x m b p q h k le = least_push a c x m b false p h.path h.ends best
  where
    tie : (r : List Bool) → IsPath a c r → drop (length c) r ≡ true ∷ m → (longer_total c x p false m b < longer_total c x r true m b) ⊎ (longer_total c x r true m b ≤ longer_total c x p false m b) → NotAfter c q r → NoWorse c x m b p false true r
    tie r i e (inl lt) n = inl lt
    tie r i e (inr ge) n = inr (omega (arith, total_le c q r n), even_first (length c) p r m (omega (arith, h.path.long, i.long)) (omega (arith, h.path.long)) h.ends e)

    best : (y : Bool) (r : List Bool) → IsPath a c r → drop (length c) r ≡ y ∷ m → NoWorse c x m b p false y r
    best false r i e = same_way c x m b false p r (not_after c p r (omega (arith, h.path.long, i.long)) (h.first r i e))
    best true r i e = tie r i e (cases_lt _ _) (not_after c q r (omega (arith, k.path.long, i.long)) (k.first r i e))

pub odd_wins : (a : Option (List Bool)) (c : List CostPair) (x : CostPair) (m : List Bool) (b : Bool) (p q : List Bool) → LeastTo a c (false ∷ m) p → LeastTo a c (true ∷ m) q → longer_total c x q true m b < longer_total c x p false m b → LeastTo a (c ++ x ∷ []) (m ++ b ∷ []) (q ++ b ∷ [])
odd_wins a c x m b p q h k lt = least_push a c x m b true q k.path k.ends best
  where
    best : (y : Bool) (r : List Bool) → IsPath a c r → drop (length c) r ≡ y ∷ m → NoWorse c x m b q true y r
    best true r i e = same_way c x m b true q r (not_after c q r (omega (arith, k.path.long, i.long)) (k.first r i e))
    best false r i e = inl (omega (arith, total_le c p r (not_after c p r (omega (arith, h.path.long, i.long)) (h.first r i e))))

-- with one way that one is taken
pub only_way : (a : Option (List Bool)) (c : List CostPair) (x : CostPair) (m : List Bool) (b z : Bool) (p : List Bool) → LeastTo a c (z ∷ m) p → Unreached a c (not z ∷ m) → LeastTo a (c ++ x ∷ []) (m ++ b ∷ []) (p ++ b ∷ [])
only_way a c x m b z p h u = least_push a c x m b z p h.path h.ends (λ y r i e. best y r i e (cases_same y z))
  where
    cases_same : (y z : Bool) → (y ≡ z) ⊎ (y ≡ not z)
    cases_same true true = inl refl
    cases_same true false = inr refl
    cases_same false true = inr refl
    cases_same false false = inl refl

    best : (y : Bool) (r : List Bool) → IsPath a c r → drop (length c) r ≡ y ∷ m → (y ≡ z) ⊎ (y ≡ not z) → NoWorse c x m b p z y r
    best y r i e (inl s) = subst (λ w. NoWorse c x m b p z w r) (sym s) (same_way c x m b z p r (not_after c p r (omega (arith, h.path.long, i.long)) (h.first r i (e ∙ ap (λ w. w ∷ m) s))))
    best y r i e (inr s) = absurd (u r i (e ∙ ap (λ w. w ∷ m) s))

-- and with none there is no path
pub no_way : (a : Option (List Bool)) (c : List CostPair) (x : CostPair) (m : List Bool) (b : Bool) → Unreached a c (false ∷ m) → Unreached a c (true ∷ m) → Unreached a (c ++ x ∷ []) (m ++ b ∷ [])
no_way a c x m b u v q h e = go (from_one a c x m b q h e)
  where
    at : (f : List Bool) (z : Bool) → IsPath a c f → drop (length c) f ≡ z ∷ m → ⊥
    at f false i e = u f i e
    at f true i e = v f i e

    go : From a c m b q → ⊥
    go g = at g.front g.oldest g.path g.ends

pub paths_extend : (a : Option (List Bool)) (c : List CostPair) (x : CostPair) (m : List Bool) (b : Bool) → ExtendsTo a c x m b
paths_extend a c x m b = record {
  even = even_wins a c x m b;
  odd = odd_wins a c x m b;
  only = only_way a c x m b;
  none = no_way a c x m b;
}
