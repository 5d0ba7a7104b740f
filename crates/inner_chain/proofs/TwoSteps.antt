-- The pairs of two steps of the words of a run, word by word.
use Rattle.std.proofs.Common.{◌≡◌, ◌≢◌, ℕ, zero, suc, ◌+◌, ◌-◌, ◌*◌, ◌<◌, ◌≤◌, ◌⊎◌, inl, inr, List, length, length-set, refl, sym, ap, ◌∙◌, subst, arith}
use Rattle.std.specs.Prelude.{slice_index, slice_index_or, slice_set}
use Rattle.std.proofs.lemmas.Bool.{cases_lt}
use Rattle.std.proofs.lemmas.List.{get_or-set_same, get_or-set_other}
use Rattle.code_paths.specs.declared.costs.CostPair.{CostPair}
use Rattle.inner_chain.specs.CostTables.{IsPairAt, IsRoom}
use Rattle.inner_chain.specs.StepPairs.{IsInLanes, WritesSteps, word_lanes}
use Rattle.inner_chain.proofs.Running.{words_apart}
use Rattle.inner_chain.proofs.StepLanes.{pair_of_lanes}

pub moved : (costs : List (ℕ × ℕ)) (x y i v w j : ℕ) (list : List CostPair) (d : CostPair) → x ≡ v → y ≡ w → i ≡ j → IsPairAt costs x y (slice_index_or list i d) → IsPairAt costs v w (slice_index_or list j d)
moved costs x y i v w j list d ex ey ei p =
    subst (λ (z : ℕ). IsPairAt costs v w (slice_index_or list z d)) ei (subst (λ (z : ℕ). IsPairAt costs v z (slice_index_or list i d)) ey (subst (λ (z : ℕ). IsPairAt costs z y (slice_index_or list i d)) ex p))

pub none_written : (costs : List (ℕ × ℕ)) (here next : ℕ × ℕ) (n first : ℕ) (list : List CostPair) → WritesSteps 0 costs here next n first list list
none_written costs here next n first list = record {
  long = refl;
  of_here = λ u d l. absurd (omega (arith, l));
  of_next = λ u d l. absurd (omega (arith, l));
  others = λ k d off. refl;
}

-- ---- one word
word_written : (costs : List (ℕ × ℕ)) (here next : ℕ × ℕ) (n at first : ℕ) (old new : List CostPair) → at ≡ first → length new ≡ length old → ((d : CostPair) → IsPairAt costs here.0 here.1 (slice_index_or new at d))
    → ((d : CostPair) → IsPairAt costs next.0 next.1 (slice_index_or new (at + 1) d)) → ((k : ℕ) (d : CostPair) → k ≢ at → k ≢ at + 1 → slice_index_or new k d ≡ slice_index_or old k d) → WritesSteps 1 costs here next n first old new
word_written costs here next n at first old new e long a b same = record { long = long; of_here = of_here; of_next = of_next; others = others }
  where
    of_here : (u : ℕ) (d : CostPair) → u < 1 → IsPairAt costs (here.0 + u) (here.1 + u) (slice_index_or new (first + u * n) d)
    of_here zero d l = moved costs here.0 here.1 at (here.0 + zero) (here.1 + zero) (first + zero * n) new d (omega arith) (omega arith) (omega (arith, e)) (a d)
    of_here (suc u) d l = absurd (omega (arith, l))

    of_next : (u : ℕ) (d : CostPair) → u < 1 → IsPairAt costs (next.0 + u) (next.1 + u) (slice_index_or new (first + u * n + 1) d)
    of_next zero d l = moved costs next.0 next.1 (at + 1) (next.0 + zero) (next.1 + zero) (first + zero * n + 1) new d (omega arith) (omega arith) (omega (arith, e)) (b d)
    of_next (suc u) d l = absurd (omega (arith, l))

    others : (k : ℕ) (d : CostPair) → ((u : ℕ) → u < 1 → (k ≢ first + u * n) × (k ≢ first + u * n + 1)) → slice_index_or new k d ≡ slice_index_or old k d
    others k d off = let o = off 0 (omega arith) in same k d (λ i. o.0 (omega (arith, i, e))) (λ i. o.1 (omega (arith, i, e)))

pub word_set : (costs : List (ℕ × ℕ)) (here next : ℕ × ℕ) (n first : ℕ) (list : List CostPair) (a b : CostPair) → first + 1 < length list → IsPairAt costs here.0 here.1 a → IsPairAt costs next.0 next.1 b
    → WritesSteps 1 costs here next n first list (slice_set (slice_set list first a) (first + 1) b)
word_set costs here next n first list a b within pa pb =
    let one = slice_set list first a in
    let long : length one ≡ length list = length-set list first a in
    word_written costs here next n first first list (slice_set one (first + 1) b) refl (length-set one (first + 1) b ∙ long)
    (λ d. subst (IsPairAt costs here.0 here.1) (sym (get_or-set_other one (first + 1) first b d (λ i. absurd (omega (arith, i))) ∙ get_or-set_same list first a d (omega (arith, within)))) pa)
    (λ d. subst (IsPairAt costs next.0 next.1) (sym (get_or-set_same one (first + 1) b d (omega (arith, within, long)))) pb)
    (λ k d p q. get_or-set_other one (first + 1) k b d q ∙ get_or-set_other list first k a d p)

pub word_put : (costs : List (ℕ × ℕ)) (here next : ℕ × ℕ) (n at first : ℕ) (lanes : List ℕ) (old new : List CostPair) → IsRoom costs → lanes ≡ word_lanes costs here.0 here.1 next.0 next.1 → at ≡ first → length new ≡ length old
    → ((d : CostPair) → IsInLanes (slice_index lanes 0) (slice_index lanes 1) (slice_index_or new at d)) → ((d : CostPair) → IsInLanes (slice_index lanes 2) (slice_index lanes 3) (slice_index_or new (at + 1) d))
    → ((k : ℕ) (d : CostPair) → k ≢ at → k ≢ at + 1 → slice_index_or new k d ≡ slice_index_or old k d) → WritesSteps 1 costs here next n first old new
word_put costs here next n at first lanes old new room is e long a b same =
    word_written costs here next n at first old new e long
    (λ d. pair_of_lanes costs room here.0 here.1 (slice_index_or new at d) (subst (λ (l : List ℕ). IsInLanes (slice_index l 0) (slice_index l 1) (slice_index_or new at d)) is (a d)))
    (λ d. pair_of_lanes costs room next.0 next.1 (slice_index_or new (at + 1) d) (subst (λ (l : List ℕ). IsInLanes (slice_index l 2) (slice_index l 3) (slice_index_or new (at + 1) d)) is (b d))) same

-- ---- more words
pub words_more : (costs : List (ℕ × ℕ)) (here next : ℕ × ℕ) (m more steps first : ℕ) (old now new : List CostPair) → 2 ≤ steps → WritesSteps m costs here next steps first old now
    → WritesSteps more costs (here.0 + m, here.1 + m) (next.0 + m, next.1 + m) steps (first + m * steps) now new → WritesSteps (m + more) costs here next steps first old new
words_more costs here next m more steps first old now new two a b = record { long = b.long ∙ a.long; of_here = of_here; of_next = of_next; others = others }
  where
    here_of : (u : ℕ) (d : CostPair) → u < m + more → (u < m) ⊎ (m ≤ u) → IsPairAt costs (here.0 + u) (here.1 + u) (slice_index_or new (first + u * steps) d)
    here_of u d l (inl less) = subst (IsPairAt costs (here.0 + u) (here.1 + u)) (sym (b.others (first + u * steps) d off)) (a.of_here u d less)
      where
        off : (v : ℕ) → v < more → (first + u * steps ≢ first + m * steps + v * steps) × (first + u * steps ≢ first + m * steps + v * steps + 1)
        off v lv =
            let apart : u * steps + steps ≤ (m + v) * steps = words_apart u (m + v) steps (omega (arith, less)) in
            (λ e. absurd (omega (arith, e, apart, two)), λ e. absurd (omega (arith, e, apart, two)))
    here_of u d l (inr past) =
        let v = u - m in
        let number : m + v ≡ u = omega (arith, past) in
        let place : (m + v) * steps ≡ u * steps = ap (λ (z : ℕ). z * steps) number in
        moved costs (here.0 + m + v) (here.1 + m + v) (first + m * steps + v * steps) (here.0 + u) (here.1 + u) (first + u * steps) new d (omega (arith, number)) (omega (arith, number)) (omega (arith, place)) (b.of_here v d (omega (arith, l, number)))

    of_here : (u : ℕ) (d : CostPair) → u < m + more → IsPairAt costs (here.0 + u) (here.1 + u) (slice_index_or new (first + u * steps) d)
    of_here u d l = here_of u d l (cases_lt u m)

    next_of : (u : ℕ) (d : CostPair) → u < m + more → (u < m) ⊎ (m ≤ u) → IsPairAt costs (next.0 + u) (next.1 + u) (slice_index_or new (first + u * steps + 1) d)
    next_of u d l (inl less) = subst (IsPairAt costs (next.0 + u) (next.1 + u)) (sym (b.others (first + u * steps + 1) d off)) (a.of_next u d less)
      where
        off : (v : ℕ) → v < more → (first + u * steps + 1 ≢ first + m * steps + v * steps) × (first + u * steps + 1 ≢ first + m * steps + v * steps + 1)
        off v lv =
            let apart : u * steps + steps ≤ (m + v) * steps = words_apart u (m + v) steps (omega (arith, less)) in
            (λ e. absurd (omega (arith, e, apart, two)), λ e. absurd (omega (arith, e, apart, two)))
    next_of u d l (inr past) =
        let v = u - m in
        let number : m + v ≡ u = omega (arith, past) in
        let place : (m + v) * steps ≡ u * steps = ap (λ (z : ℕ). z * steps) number in
        moved costs (next.0 + m + v) (next.1 + m + v) (first + m * steps + v * steps + 1) (next.0 + u) (next.1 + u) (first + u * steps + 1) new d (omega (arith, number)) (omega (arith, number)) (omega (arith, place)) (b.of_next v d (omega (arith, l, number)))

    of_next : (u : ℕ) (d : CostPair) → u < m + more → IsPairAt costs (next.0 + u) (next.1 + u) (slice_index_or new (first + u * steps + 1) d)
    of_next u d l = next_of u d l (cases_lt u m)

    others : (k : ℕ) (d : CostPair) → ((u : ℕ) → u < m + more → (k ≢ first + u * steps) × (k ≢ first + u * steps + 1)) → slice_index_or new k d ≡ slice_index_or old k d
    others k d off =
        b.others k d (λ v l. let o = off (m + v) (omega (arith, l)) in (λ e. o.0 (omega (arith, e)), λ e. o.1 (omega (arith, e))))
        ∙ a.others k d (λ u l. off u (omega (arith, l)))
