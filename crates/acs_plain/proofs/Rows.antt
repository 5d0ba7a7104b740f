-- Sequences of steps: one more at the end, and two in order.
use Rattle.std.proofs.Common.{◌≡◌, ℕ, suc, ◌+◌, ◌<◌, List, [], ◌∷◌, ◌++◌, length, take, get_or, ◌≤◌, refl, sym, ap, subst, arith}
use Rattle.std.proofs.lemmas.List.{take_more, take_more_set, take_all}
use Rattle.std.specs.Prelude.{slice_set}
use Rattle.code_paths.specs.declared.costs.CostPair.{CostPair}
use Rattle.acs_plain.specs.declared.sums.Sums.{Sums}
use Rattle.acs_plain.specs.Steps.{IsStep, AreSteps}
use Rattle.acs_plain.specs.Spread.{IsSpread}
use Rattle.acs_plain.proofs.Spread.{spread_step}

pub steps_length : (old : Sums) (pairs : List CostPair) (new : Sums) (words : List ℕ) → AreSteps old pairs new words → length words ≡ length pairs
steps_length old [] new [] h = refl
steps_length old [] new (w ∷ ws) h = absurd h
steps_length old (p ∷ ps) new [] h = absurd h
steps_length old (p ∷ ps) new (w ∷ ws) (next, s, r) = ap suc (steps_length next ps new ws r)

-- two sequences of steps in order
pub steps_append : (old : Sums) (ps : List CostPair) (mid : Sums) (ws : List ℕ) (qs : List CostPair) (new : Sums) (vs : List ℕ) → AreSteps old ps mid ws → AreSteps mid qs new vs → AreSteps old (ps ++ qs) new (ws ++ vs)
steps_append old [] mid [] qs new vs h k = subst (λ z. AreSteps z qs new vs) (sym h) k
steps_append old [] mid (w ∷ ws) qs new vs h k = absurd h
steps_append old (p ∷ ps) mid [] qs new vs h k = absurd h
steps_append old (p ∷ ps) mid (w ∷ ws) qs new vs (next, s, r) k = (next, s, steps_append next ps mid ws qs new vs r k)

-- one more step
pub steps_push : (old : Sums) (ps : List CostPair) (mid : Sums) (ws : List ℕ) (p : CostPair) (new : Sums) (w : ℕ) → AreSteps old ps mid ws → IsStep mid p new w → AreSteps old (ps ++ p ∷ []) new (ws ++ w ∷ [])
steps_push old ps mid ws p new w h k = steps_append old ps mid ws (p ∷ []) new (w ∷ []) h (new, k, refl)

-- sums stay close together
pub steps_spread : (old : Sums) (ps : List CostPair) (new : Sums) (ws : List ℕ) → AreSteps old ps new ws → IsSpread old → IsSpread new
steps_spread old [] new [] h k = subst IsSpread h k
steps_spread old [] new (w ∷ ws) h k = absurd h
steps_spread old (p ∷ ps) new [] h k = absurd h
steps_spread old (p ∷ ps) new (w ∷ ws) (next, s, r) k = steps_spread next ps new ws r (spread_step old p next w k s)

-- a sequence from two lists, and one more step
pub row_more : (old : Sums) (ps : List CostPair) (k : ℕ) (d p : CostPair) (mid : Sums) (ws : List ℕ) (new : Sums) (w : ℕ) → k < length ps → k < length ws → get_or ps k d ≡ p
    → AreSteps old (take k ps) mid (take k ws) → IsStep mid p new w → AreSteps old (take (k + 1) ps) new (take (k + 1) (slice_set ws k w))
row_more old ps k d p mid ws new w l m e h s =
    let q = subst (λ z. AreSteps old (take k ps ++ z ∷ []) new (take k ws ++ w ∷ [])) (sym e) (steps_push old (take k ps) mid (take k ws) p new w h s) in
    let r = subst (λ z. AreSteps old z new (take k ws ++ w ∷ [])) (sym (take_more ps k d l)) q in
    subst (λ z. AreSteps old (take (k + 1) ps) new z) (sym (take_more_set ws k w m)) r

-- the whole of two lists
pub row_whole : (old : Sums) (ps : List CostPair) (k : ℕ) (mid : Sums) (ws : List ℕ) → length ps ≤ k → length ws ≡ length ps → AreSteps old (take k ps) mid (take k ws) → AreSteps old ps mid ws
row_whole old ps k mid ws l m h =
    let q = subst (λ z. AreSteps old z mid (take k ws)) (take_all k ps l) h in
    subst (λ z. AreSteps old ps mid z) (take_all k ws (omega (arith, m))) q
