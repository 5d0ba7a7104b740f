-- The reports of the first costs of a stream.
use Rattle.std.proofs.Common.{◌≡◌, ℕ, ◌+◌, ◌-◌, ◌<◌, ◌≤◌, Bool, true, false, cond, inl, inr, ◌⊎◌, List, [], ◌∷◌, ◌++◌, length, take, get_or, refl, sym, ap, ap₂, ◌∙◌, subst, arith, length-append, length-take-le}
use Rattle.std.specs.Prelude.{nat_le, filter, All}
use Rattle.std.specs.declared.option.Option.{Option}
use Rattle.std.specs.declared.option.Option.TheVariants.{Some}
use Rattle.std.proofs.lemmas.Bool.{cases_lt}
use Rattle.std.proofs.lemmas.List.{take-take, take-append-le, get_or-append-add}
use Rattle.std.proofs.Math.Seq.{take-append_seam, take-append-add}
use Rattle.std.proofs.lemmas.List.Elements.{All-nil, All-cons, All-weaker, filter-append}
use Rattle.code_paths.specs.declared.costs.CostPair.{CostPair}
use Rattle.code_paths.specs.Streams.{IsOverdue, IsQuiet, Part, end_of, IsCut, ends_of, Reports}
use Rattle.code_paths.specs.Laws.{ReportsOnce}
use Rattle.reception.specs.Laws.{ReportsAreSteps, NewReportsAreLater}
use Rattle.reception.proofs.Numbered.{none_pass, all_pass, none_kept, nothing_more}

abbrev pub IsBetween : ℕ → ℕ → ℕ → Type 0
IsBetween n m at = (n < at) × (at ≤ m)

-- the ends of the parts of c after n steps
ends_between : (most : ℕ) (a : Option (List Bool)) (c : List CostPair) (ps : List Part) (b : Option (List Bool)) (d : List CostPair) (n : ℕ) → IsCut most a c ps b d → All (IsBetween n (n + length c)) (ends_of n ps)
ends_between most a c [] b d n h = All-nil (IsBetween n (n + length c))
ends_between most a c (p ∷ ps) b d n h =
    let l : length c ≡ length p.costs + length h.0 = ap length h.1 ∙ length-append p.costs h.0 in
    let m = n + length p.costs in
    let o : length p.costs ≡ length p.costs = refl in
    All-cons (IsBetween n (n + length c)) m (ends_of m ps) (omega (arith, h.2.over.over, l), omega (arith, l))
    (All-weaker (IsBetween m (m + length h.0)) (IsBetween n (n + length c)) (λ at k. (omega (arith, k.0), omega (arith, k.1, l))) (ends_of m ps) (ends_between most (Some (end_of p)) h.0 ps b d m h.3))

le_true : (a b : ℕ) → a ≤ b → nat_le a b ≡ true
le_true a b h = grind arith

le_false : (a b : ℕ) → b < a → nat_le a b ≡ false
le_false a b h = grind arith

false_gt : (a b : ℕ) → nat_le a b ≡ false → b < a
false_gt a b h = grind arith

-- the parts of the first t costs: those that end within them
record Front (most : ℕ) (a : Option (List Bool)) (c : List CostPair) (ps : List Part) (n t : ℕ) : Type 0 where
  parts : List Part
  start : Option (List Bool)
  costs : List CostPair
  cut : IsCut most a (take t c) parts start costs
  is : ends_of n parts ≡ filter (λ at. nat_le at (n + t)) (ends_of n ps)

quiet_front : (most : ℕ) (a : Option (List Bool)) (c : List CostPair) (t m : ℕ) → t < m → t ≤ length c → IsQuiet most a c m → IsQuiet most a (take t c) (length (take t c) + 1)
quiet_front most a c t m l w q u k o =
    let within : u ≤ t = omega (arith, k, length-take-le t c w) in
    q u (omega (arith, within, l)) (subst (IsOverdue most a) (take-take u t c within) o)

front : (most : ℕ) (a : Option (List Bool)) (c : List CostPair) (ps : List Part) (b : Option (List Bool)) (d : List CostPair) (n t : ℕ) → t ≤ length c → IsCut most a c ps b d → Front most a c ps n t
front most a c [] b d n t l h = record { parts = []; start = a; costs = take t c; cut = (refl, refl, quiet_front most a c t (length c + 1) (omega (arith, l)) l h.2); is = refl }
front most a c (p ∷ ps) b d n t l h =
    go (cases_lt t (length p.costs))
    (λ s. front most (Some (end_of p)) h.0 ps b d (n + length p.costs) (t - length p.costs) (omega (arith, l, ap length h.1, length-append p.costs h.0, s)) h.3)
  where
    m : ℕ
    m = n + length p.costs

    later : All (IsBetween m (m + length h.0)) (ends_of m ps)
    later = ends_between most (Some (end_of p)) h.0 ps b d m h.3

    go : (t < length p.costs) ⊎ (length p.costs ≤ t) → (length p.costs ≤ t → Front most (Some (end_of p)) h.0 ps m (t - length p.costs)) → Front most a c (p ∷ ps) n t
    go (inl s) rest =
        let same : take t p.costs ≡ take t c = sym (ap (take t) h.1 ∙ take-append-le t p.costs h.0 (omega (arith, s))) in
        record {
          parts = [];
          start = a;
          costs = take t c;
          cut = (refl, refl, subst (λ z. IsQuiet most a z (length z + 1)) same (quiet_front most a p.costs t (length p.costs) s (omega (arith, s)) h.2.quiet));
          is = sym (none_pass (λ at. nat_le at (n + t)) (ends_of n (p ∷ ps))
              (All-cons (λ at. nat_le at (n + t) ≡ false) m (ends_of m ps) (le_false m (n + t) (omega (arith, s)))
              (All-weaker (IsBetween m (m + length h.0)) (λ at. nat_le at (n + t) ≡ false) (λ at k. le_false at (n + t) (omega (arith, k.0, s))) (ends_of m ps) later)));
        }
    go (inr s) rest =
        let r = rest s in
        let split : t ≡ length p.costs + (t - length p.costs) = omega (arith, s) in
        let place : m + (t - length p.costs) ≡ n + t = omega (arith, s) in
        record {
          parts = p ∷ r.parts;
          start = r.start;
          costs = r.costs;
          cut = (take (t - length p.costs) h.0, ap₂ (λ x y. take x y) split h.1 ∙ take-append-add p.costs h.0 (t - length p.costs), h.2, r.cut);
          is = ap (λ z. m ∷ z) (r.is ∙ ap (λ k. filter (λ at. nat_le at k) (ends_of m ps)) place)
              ∙ ap (λ e. cond e (m ∷ filter (λ at. nat_le at (n + t)) (ends_of m ps)) (filter (λ at. nat_le at (n + t)) (ends_of m ps))) (sym (le_true m (n + t) (omega (arith, s))));
        }

pub reports_are_steps : ReportsAreSteps
reports_are_steps most a c rs r = subst (All (IsBetween 0 (length c))) (sym r.is) (subst (λ n. All (IsBetween 0 n) (ends_of 0 r.parts)) (let e : 0 + length c ≡ length c = omega arith in e) (ends_between most a c r.parts r.start r.costs 0 r.cut))

-- the reports of the first costs are those numbered within them
first_reports : (most : ℕ) (a : Option (List Bool)) (c : List CostPair) (rs : List ℕ) (t : ℕ) → t ≤ length c → Reports most a c rs → Reports most a (take t c) (filter (λ at. nat_le at t) rs)
first_reports most a c rs t l r =
    let f = front most a c r.parts r.start r.costs 0 t l r.cut in
    let e : 0 + t ≡ t = omega arith in
    record { parts = f.parts; start = f.start; costs = f.costs; cut = f.cut; is = ap₂ (λ k z. filter (λ at. nat_le at k) z) (sym e) r.is ∙ sym f.is }

pub new_reports_are_later : ReportsOnce → NewReportsAreLater
new_reports_are_later once most a c more rs us r q =
    let p : ℕ → Bool = λ at. nat_le at (length c) in
    let long = length-append c more in
    let first : Reports most a c (filter p (rs ++ us)) = subst (λ z. Reports most a z (filter p (rs ++ us))) (take-append_seam c more) (first_reports most a (c ++ more) (rs ++ us) (length c) (omega (arith, long)) q) in
    let kept : filter p rs ≡ rs = all_pass p rs (All-weaker (IsBetween 0 (length c)) (λ at. p at ≡ true) (λ at k. le_true at (length c) k.1) rs (reports_are_steps most a c rs r)) in
    let same : rs ≡ rs ++ filter p us = once most a c rs (filter p (rs ++ us)) r first ∙ filter-append p rs us ∙ ap (λ z. z ++ filter p us) kept in
    let later : All (λ at. p at ≡ false) us = none_kept p us (nothing_more rs (filter p us) same) in
    let all = reports_are_steps most a (c ++ more) (rs ++ us) q in
    λ k d l. (false_gt _ _ (later k d l), omega (arith, long, (behind k d l all).1))
  where
    behind : (k : ℕ) (d : ℕ) → k < length us → All (IsBetween 0 (length (c ++ more))) (rs ++ us) → IsBetween 0 (length (c ++ more)) (get_or us k d)
    behind k d l h = subst (IsBetween 0 (length (c ++ more))) (get_or-append-add rs us k d) (h (length rs + k) d (omega (arith, l, length-append rs us)))
