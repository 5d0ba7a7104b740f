-- The defined bits only grow.
use Rattle.std.proofs.Common.{◌≡◌, ℕ, zero, suc, ◌+◌, ◌*◌, ◌^◌, ◌<◌, ◌≤◌, Bool, true, false, List, [], ◌∷◌, ◌++◌, length, take, drop, ◌⊎◌, inl, inr, refl, sym, ap, ap₂, ◌∙◌, subst, subst₂, arith, length-append, append_assoc, append-nil, take-append-drop, length-take-le, drop-drop}
use Rattle.std.proofs.lemmas.Bool.{cases_lt}
use Rattle.std.proofs.lemmas.List.{take_at, take-append-le, drop-append-le}
use Rattle.std.specs.declared.option.Option.{Option}
use Rattle.std.specs.declared.option.Option.TheVariants.{None, Some}
use Rattle.code_paths.specs.declared.costs.CostPair.{CostPair}
use Rattle.code_paths.specs.Paths.{total, LeastTo, Least, IsPath, Starts}
use Rattle.code_paths.specs.Streams.{IsPrefix, Shared, IsOverdue, IsQuiet, Part, end_of, IsPart, IsCut, bits_of, ends_of, Given, Ended, Reports}
use Rattle.code_paths.specs.Trial.{weight}
use Rattle.code_paths.proofs.Order.{weight-append, NotAfter, not_after, or_before}
use Rattle.code_paths.proofs.Extend.{step_front}
use Rattle.code_paths.proofs.Unique.{least_unique}
use Rattle.code_paths.proofs.Cuts.{no_part, same_part, same_costs, same_rest, cut_unique}

total_append : (c m : List CostPair) (p : List Bool) → total (c ++ m) p ≡ total c p + total m (drop (length c) p)
total_append [] m p = omega arith
total_append (x ∷ c) m [] = omega (arith, total_append c m [], ap (total m) (drop_nil (length c)))
  where
    drop_nil : (n : ℕ) → drop {A = Bool} n [] ≡ []
    drop_nil zero = refl
    drop_nil (suc n) = refl
total_append (x ∷ c) m (b ∷ p) = omega (arith, total_append c m p)

total_front : (c : List CostPair) (p t : List Bool) → 6 + length c ≤ length p → total c (p ++ t) ≡ total c p
total_front [] p t l = refl
total_front (x ∷ c) [] t l = absurd (omega arith)
total_front (x ∷ c) (b ∷ p) t l = omega (arith, step_front x (b ∷ p) t (omega arith), total_front c p t (omega arith))

starts_front : (a : Option (List Bool)) (p t : List Bool) → 6 ≤ length p → Starts a (p ++ t) → Starts a p
starts_front None p t l s = s
starts_front (Some r) p t l s = sym (take-append-le 6 p t l) ∙ s

starts_more : (a : Option (List Bool)) (p t : List Bool) → 6 ≤ length p → Starts a p → Starts a (p ++ t)
starts_more None p t l s = s
starts_more (Some r) p t l s = take-append-le 6 p t l ∙ s

-- with the same end and continuation, the order is that of the prefixes
not_after_front : (c m : List CostPair) (p q t : List Bool) → length p ≡ 6 + length c → length q ≡ 6 + length c → drop (length c) p ≡ drop (length c) q → NotAfter (c ++ m) (p ++ t) (q ++ t) → NotAfter c p q
not_after_front c m p q t l k e h = go h
  where
    whole : (p : List Bool) → length p ≡ 6 + length c → total (c ++ m) (p ++ t) ≡ total c p + total m (drop (length c) p ++ t)
    whole p l = total_append c m (p ++ t) ∙ ap₂ (λ y z. y + total m z) (total_front c p t (omega arith)) (drop-append-le (length c) p t (omega arith))

    rest : total m (drop (length c) p ++ t) ≡ total m (drop (length c) q ++ t)
    rest = ap (λ z. total m (z ++ t)) e

    same : 2 ^ length p * weight t ≡ 2 ^ length q * weight t
    same = ap (λ n. 2 ^ n * weight t) (l ∙ sym k)

    go : NotAfter (c ++ m) (p ++ t) (q ++ t) → NotAfter c p q
    go (inl n) = inl (omega (arith, n, whole p l, whole q k, rest))
    go (inr n) = inr (omega (arith, n.0, whole p l, whole q k, rest), omega (arith, n.1, weight-append p t, weight-append q t, same))

-- a prefix of a path that is not after any to its end is least to its own end
front_least : (a : Option (List Bool)) (c m : List CostPair) (p t : List Bool) → length p ≡ 6 + length c → IsPath a (c ++ m) (p ++ t)
    → ((q : List Bool) → IsPath a (c ++ m) q → drop (length (c ++ m)) q ≡ drop (length (c ++ m)) (p ++ t) → NotAfter (c ++ m) (p ++ t) q) → LeastTo a c (drop (length c) p) p
front_least a c m p t l h f = record {
  path = record { long = l; start = starts_front a p t (omega (arith, l)) h.start };
  ends = refl;
  first = λ q k e. or_before c p q (l ∙ sym k.long)
      (not_after_front c m p q t l k.long (sym e)
      (f (q ++ t) (record { long = omega (arith, length-append q t, length-append p t, h.long, l, k.long); start = starts_more a q t (omega (arith, k.long)) k.start })
      (far q k.long ∙ ap (λ z. drop (length m) (z ++ t)) e ∙ sym (far p l))));
}
  where
    far : (q : List Bool) → length q ≡ 6 + length c → drop (length (c ++ m)) (q ++ t) ≡ drop (length m) (drop (length c) q ++ t)
    far q l = ap (λ n. drop n (q ++ t)) (length-append c m) ∙ sym (drop-drop (length m) (length c) (q ++ t)) ∙ ap (drop (length m)) (drop-append-le (length c) q t (omega arith))

drop_front : (p t : List Bool) → 6 ≤ length p → drop 6 (p ++ t) ≡ drop 6 p ++ t
drop_front p t l = drop-append-le 6 p t l

prefix_more : (s p t : List Bool) → IsPrefix s p → IsPrefix s (p ++ t)
prefix_more s p t h = record { rest = h.rest ++ t; is = ap (λ z. z ++ t) h.is ∙ append_assoc s h.rest t }

-- the shared bits are a prefix of each path that is least to its end over more costs
shared_begins : (a : Option (List Bool)) (c m : List CostPair) (s p : List Bool) → Shared a c s → IsPath a (c ++ m) p
    → ((q : List Bool) → IsPath a (c ++ m) q → drop (length (c ++ m)) q ≡ drop (length (c ++ m)) p → NotAfter (c ++ m) p q) → IsPrefix s (drop 6 p)
shared_begins a c m s p h k f =
    let n = 6 + length c in
    let front = take n p in
    let back = drop n p in
    let e : front ++ back ≡ p = take-append-drop n p in
    let l : length front ≡ 6 + length c = length-take-le n p (omega (arith, k.long, length-append c m)) in
    let t = front_least a c m front back l (subst (IsPath a (c ++ m)) (sym e) k)
    (subst (λ z. (q : List Bool) → IsPath a (c ++ m) q → drop (length (c ++ m)) q ≡ drop (length (c ++ m)) z → NotAfter (c ++ m) z q) (sym e) f) in
    subst (λ z. IsPrefix s (drop 6 z)) e
    (subst (IsPrefix s) (sym (drop_front front back (omega (arith, l)))) (prefix_more s (drop 6 front) back (h.common (drop (length c) front) front t)))

pub shared_to : (a : Option (List Bool)) (c m : List CostPair) (s e p : List Bool) → Shared a c s → LeastTo a (c ++ m) e p → IsPrefix s (drop 6 p)
shared_to a c m s e p h k = shared_begins a c m s p h k.path (λ q i f. not_after (c ++ m) p q (omega (arith, k.path.long, i.long)) (k.first q i (f ∙ k.ends)))

pub shared_least : (a : Option (List Bool)) (c m : List CostPair) (s p : List Bool) → Shared a c s → Least a (c ++ m) p → IsPrefix s (drop 6 p)
shared_least a c m s p h k = shared_begins a c m s p h k.path (λ q i f. not_after (c ++ m) p q (omega (arith, k.path.long, i.long)) (k.first q i))

-- two lists of bits are equal or not
same_bits : (p q : List Bool) → (p ≡ q) ⊎ (p ≡ q → ⊥)
same_bits [] [] = inl refl
same_bits [] (b ∷ q) = inr (λ e. absurd (omega (arith, ap length e)))
same_bits (a ∷ p) [] = inr (λ e. absurd (omega (arith, ap length e)))
same_bits (a ∷ p) (b ∷ q) = go a b (same_bits p q)
  where
    go : (a b : Bool) → (p ≡ q) ⊎ (p ≡ q → ⊥) → (a ∷ p ≡ b ∷ q) ⊎ (a ∷ p ≡ b ∷ q → ⊥)
    go true true (inl e) = inl (ap (λ z. true ∷ z) e)
    go false false (inl e) = inl (ap (λ z. false ∷ z) e)
    go true false h = inr (λ e. cc)
    go false true h = inr (λ e. cc)
    go true true (inr n) = inr (λ e. n (ap (drop 1) e))
    go false false (inr n) = inr (λ e. n (ap (drop 1) e))

-- the shorter of two prefixes of a list is a prefix of the longer
pub prefix_of_prefix : (s r p : List Bool) → IsPrefix s p → IsPrefix r p → length s ≤ length r → take (length s) r ≡ s
prefix_of_prefix s r p h k l =
    sym (take-append-le (length s) r k.rest l) ∙ ap (take (length s)) (sym k.is ∙ h.is) ∙ take_at s h.rest (length s) refl

pub prefix_from_take : (s r : List Bool) → take (length s) r ≡ s → IsPrefix s r
prefix_from_take s r e = record { rest = drop (length s) r; is = sym (take-append-drop (length s) r) ∙ ap (λ z. z ++ drop (length s) r) e }

-- the shared bits are a prefix of those over more costs
pub shared_grows : (a : Option (List Bool)) (c m : List CostPair) (s r : List Bool) → Shared a c s → Shared a (c ++ m) r → IsPrefix s r
shared_grows a c m s r h k = prefix_from_take s r (go (same_bits (take (length s) r) s))
  where
    l : length s ≤ length r
    l = k.longest s (λ e p q. shared_to a c m s e p h q)

    none : (take (length s) r ≡ s → ⊥) → (e p : List Bool) → LeastTo a (c ++ m) e p → ⊥
    none n e p q = n (prefix_of_prefix s r (drop 6 p) (shared_to a c m s e p h q) (k.common e p q) l)

    go : (take (length s) r ≡ s) ⊎ (take (length s) r ≡ s → ⊥) → take (length s) r ≡ s
    go (inl e) = e
    go (inr n) = absurd (omega (arith, k.longest (true ∷ r) (λ e p q. absurd (none n e p q))))

-- the parts of a longer stream continue those of a shorter one
pub record Further (most : ℕ) (b : Option (List Bool)) (d more : List CostPair) (ps qs : List Part) (b2 : Option (List Bool)) (d2 : List CostPair) : Type 0 where
  pub parts : List Part
  pub is : qs ≡ ps ++ parts
  pub cut : IsCut most b (d ++ more) parts b2 d2

quiet_front : (most : ℕ) (a : Option (List Bool)) (c more : List CostPair) (n : ℕ) → n ≤ length c + 1 → IsQuiet most a (c ++ more) n → IsQuiet most a c n
quiet_front most a c more n l q t k o = q t k (subst (IsOverdue most a) (sym (take-append-le t c more (omega arith))) o)

pub cut_further : (most : ℕ) (a : Option (List Bool)) (c more : List CostPair) (ps : List Part) (b : Option (List Bool)) (d : List CostPair) (qs : List Part) (b2 : Option (List Bool)) (d2 : List CostPair)
    → IsCut most a c ps b d → IsCut most a (c ++ more) qs b2 d2 → Further most b d more ps qs b2 d2
cut_further most a c more [] b d qs b2 d2 h k = record { parts = qs; is = refl; cut = subst₂ (λ y z. IsCut most y (z ++ more) qs b2 d2) (sym h.0) (sym h.1) k }
cut_further most a c more (p ∷ ps) b d [] b2 d2 h k =
    absurd (no_part most a (c ++ more) p (h.0 ++ more) k.2 (ap (λ z. z ++ more) h.1 ∙ append_assoc p.costs h.0 more) h.2)
cut_further most a c more (p ∷ ps) b d (q ∷ qs) b2 d2 h k =
    let e : p.costs ++ (h.0 ++ more) ≡ q.costs ++ k.0 = sym (append_assoc p.costs h.0 more) ∙ ap (λ z. z ++ more) (sym h.1) ∙ k.1 in
    let f : p ≡ q = same_part most a p q (same_costs most a p q (h.0 ++ more) k.0 e h.2 k.2) h.2 k.2 in
    let r : h.0 ++ more ≡ k.0 = same_rest most a p q (h.0 ++ more) k.0 e h.2 k.2 in
    let w = cut_further most (Some (end_of p)) h.0 more ps b d qs b2 d2 h.3 (subst₂ (λ x y. IsCut most (Some (end_of x)) y qs b2 d2) (sym f) (sym r) k.3) in
    record { parts = w.parts; is = ap₂ (λ x xs. x ∷ xs) (sym f) w.is; cut = w.cut }

-- an open part is quiet
open_quiet : (most : ℕ) (a : Option (List Bool)) (c : List CostPair) (ps : List Part) (b : Option (List Bool)) (d : List CostPair) → IsCut most a c ps b d → IsQuiet most b d (length d + 1)
open_quiet most a c [] b d h = subst₂ (λ y z. IsQuiet most y z (length z + 1)) (sym h.0) (sym h.1) h.2
open_quiet most a c (p ∷ ps) b d h = open_quiet most (Some (end_of p)) h.0 ps b d h.3

-- a part that begins with a quiet list of costs is longer than it
part_longer : (most : ℕ) (b : Option (List Bool)) (d more rest : List CostPair) (q : Part) → IsQuiet most b d (length d + 1) → d ++ more ≡ q.costs ++ rest → IsPart most b q → length d ≤ length q.costs
part_longer most b d more rest q k e h = go (cases_lt (length q.costs) (length d))
  where
    go : (length q.costs < length d) ⊎ (length d ≤ length q.costs) → length d ≤ length q.costs
    go (inr l) = l
    go (inl l) = absurd (k (length q.costs) (omega arith) (subst (IsOverdue most b) (sym (sym (take-append-le (length q.costs) d more (omega arith)) ∙ ap (take (length q.costs)) e ∙ take_at q.costs rest (length q.costs) refl)) h.over))

bits_append : (ps qs : List Part) → bits_of (ps ++ qs) ≡ bits_of ps ++ bits_of qs
bits_append [] qs = refl
bits_append (p ∷ ps) qs = ap (λ z. drop 6 p.path ++ z) (bits_append ps qs) ∙ sym (append_assoc (drop 6 p.path) (bits_of ps) (bits_of qs))

pub prefix_under : (f s r : List Bool) → IsPrefix s r → IsPrefix (f ++ s) (f ++ r)
prefix_under f s r h = record { rest = h.rest; is = ap (λ z. f ++ z) h.is ∙ sym (append_assoc f s h.rest) }

-- the bits given only grow
pub given_grows : (most : ℕ) (a : Option (List Bool)) (c more : List CostPair) (g h : List Bool) → Given most a c g → Given most a (c ++ more) h → IsPrefix g h
given_grows most a c more g h x y =
    let w = cut_further most a c more x.parts x.start x.costs y.parts y.start y.costs x.cut y.cut in
    subst₂ IsPrefix (sym x.is) (sym (y.is ∙ ap (λ z. bits_of z ++ y.shared) w.is ∙ ap (λ z. z ++ y.shared) (bits_append x.parts w.parts) ∙ append_assoc (bits_of x.parts) (bits_of w.parts) y.shared))
    (prefix_under (bits_of x.parts) x.shared (bits_of w.parts ++ y.shared) (go w.parts w.cut))
  where
    go : (qs : List Part) → IsCut most x.start (x.costs ++ more) qs y.start y.costs → IsPrefix x.shared (bits_of qs ++ y.shared)
    go [] k = shared_grows x.start x.costs more x.shared y.shared x.is_shared (subst₂ (λ u v. Shared u v y.shared) k.0 k.1 y.is_shared)
    go (q ∷ qs) k =
        let l = part_longer most x.start x.costs more k.0 q (open_quiet most a c x.parts x.start x.costs x.cut) k.1 k.2 in
        let e : q.costs ≡ x.costs ++ drop (length x.costs) q.costs =
        sym (take-append-drop (length x.costs) q.costs)
        ∙ ap (λ z. z ++ drop (length x.costs) q.costs) (sym (take-append-le (length x.costs) q.costs k.0 l) ∙ ap (take (length x.costs)) (sym k.1) ∙ take_at x.costs more (length x.costs) refl) in
        subst (IsPrefix x.shared) (sym (append_assoc (drop 6 q.path) (bits_of qs) y.shared))
        (prefix_more x.shared (drop 6 q.path) (bits_of qs ++ y.shared)
        (shared_least x.start x.costs (drop (length x.costs) q.costs) x.shared q.path x.is_shared (subst (λ z. Least x.start z q.path) e k.2.least)))

ends_append : (n : ℕ) (ps qs : List Part) → (k : ℕ) × (ends_of n (ps ++ qs) ≡ ends_of n ps ++ ends_of k qs)
ends_append n [] qs = (n, refl)
ends_append n (p ∷ ps) qs = let r = ends_append (n + length p.costs) ps qs in (r.0, ap (λ z. (n + length p.costs) ∷ z) r.1)

-- reports stay
pub reports_grow : (most : ℕ) (a : Option (List Bool)) (c more : List CostPair) (rs ts : List ℕ) → Reports most a c rs → Reports most a (c ++ more) ts → (us : List ℕ) × (ts ≡ rs ++ us)
reports_grow most a c more rs ts x y =
    let w = cut_further most a c more x.parts x.start x.costs y.parts y.start y.costs x.cut y.cut in
    let r = ends_append 0 x.parts w.parts in
    (ends_of r.0 w.parts, y.is ∙ ap (ends_of 0) w.is ∙ r.1 ∙ ap (λ z. z ++ ends_of r.0 w.parts) (sym x.is))

-- the bits given are unique
shared_once : (a : Option (List Bool)) (c : List CostPair) (s r : List Bool) → Shared a c s → Shared a c r → s ≡ r
shared_once a c s r h k =
    let e : c ++ [] ≡ c = append-nil c in
    let p : IsPrefix s r = shared_grows a c [] s r h (subst (λ z. Shared a z r) (sym e) k) in
    let n : length p.rest ≡ 0 = omega (arith, h.longest r k.common, ap length p.is, length-append s p.rest) in
    sym (append-nil s) ∙ ap (λ z. s ++ z) (sym (none p.rest n)) ∙ sym p.is
  where
    none : (q : List Bool) → length q ≡ 0 → q ≡ []
    none [] l = refl
    none (b ∷ q) l = absurd (omega arith)

pub given_once : (most : ℕ) (a : Option (List Bool)) (c : List CostPair) (g h : List Bool) → Given most a c g → Given most a c h → g ≡ h
given_once most a c g h x y =
    let u = cut_unique most a c x.parts x.start x.costs y.parts y.start y.costs x.cut y.cut in
    let s : Shared x.start x.costs y.shared = subst₂ (λ v w. Shared v w y.shared) (sym u.1) (sym u.2) y.is_shared in
    x.is ∙ ap₂ (λ v w. bits_of v ++ w) u.0 (shared_once x.start x.costs x.shared y.shared x.is_shared s) ∙ sym y.is

pub ended_once : (most : ℕ) (a : Option (List Bool)) (c : List CostPair) (g h : List Bool) → Ended most a c g → Ended most a c h → g ≡ h
ended_once most a c g h x y =
    let u = cut_unique most a c x.parts x.start x.costs y.parts y.start y.costs x.cut y.cut in
    let s : Least x.start x.costs y.path = subst₂ (λ v w. Least v w y.path) (sym u.1) (sym u.2) y.least in
    x.is ∙ ap₂ (λ v w. bits_of v ++ drop 6 w) u.0 (least_unique x.start x.costs x.path y.path x.least s) ∙ sym y.is

pub reports_once : (most : ℕ) (a : Option (List Bool)) (c : List CostPair) (rs ts : List ℕ) → Reports most a c rs → Reports most a c ts → rs ≡ ts
reports_once most a c rs ts x y =
    let u = cut_unique most a c x.parts x.start x.costs y.parts y.start y.costs x.cut y.cut in
    x.is ∙ ap (ends_of 0) u.0 ∙ sym y.is

pub given_begins_ended : (most : ℕ) (a : Option (List Bool)) (c : List CostPair) (g h : List Bool) → Given most a c g → Ended most a c h → IsPrefix g h
given_begins_ended most a c g h x y =
    let u = cut_unique most a c x.parts x.start x.costs y.parts y.start y.costs x.cut y.cut in
    let l : Least x.start (x.costs ++ []) y.path = subst (λ z. Least x.start z y.path) (sym (append-nil x.costs)) (subst₂ (λ v w. Least v w y.path) (sym u.1) (sym u.2) y.least) in
    subst₂ IsPrefix (sym x.is) (ap (λ z. bits_of z ++ drop 6 y.path) u.0 ∙ sym y.is)
    (prefix_under (bits_of x.parts) x.shared (drop 6 y.path) (shared_least x.start x.costs [] x.shared y.path x.is_shared l))
