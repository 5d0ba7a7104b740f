-- Two steps more, by a list of decisions.
use Rattle.std.proofs.Common.{◌≡◌, ◌≢◌, ℕ, zero, suc, ◌+◌, ◌*◌, ◌%◌, ◌<◌, ◌≤◌, List, [], ◌∷◌, ◌++◌, map, length, length-set, take, get_or, get_or-set_other, get_or-set_same, refl, sym, ap, ap₂, ◌∙◌, subst, arith}
use Rattle.std.specs.Prelude.{slice_index, slice_set}
use Rattle.std.specs.List.{range_with_len}
use Rattle.code_paths.specs.declared.costs.CostPair.{CostPair}
use Rattle.acs_plain.specs.declared.sums.Sums.{Sums}
use Rattle.acs_plain.specs.Steps.{AreSteps, IsStep}
use Rattle.acs_plain.proofs.Rows.{steps_append}
use Rattle.acs_lanes.specs.Phases.{in_order, sum_word}

-- a pair of a list, with its sums
pub record PairAt (ps : List CostPair) (k : ℕ) : Type 0 where
  pub pair : CostPair
  pub sums : slice_index (map sum_word ps) k ≡ sum_word pair
  pub is : get_or ps k pair ≡ pair

pub pair_at : (ps : List CostPair) (k : ℕ) → k < length ps → PairAt ps k
pair_at [] k l = absurd (omega (arith, l))
pair_at (p ∷ ps) zero l = record { pair = p; sums = refl; is = refl }
pair_at (p ∷ ps) (suc k) l = let r = pair_at ps k (omega (arith, l)) in record { pair = r.pair; sums = r.sums; is = r.is }

pub same_default : (ps : List CostPair) (k : ℕ) (c d : CostPair) → k < length ps → get_or ps k c ≡ get_or ps k d
same_default [] k c d l = absurd (omega (arith, l))
same_default (p ∷ ps) zero c d l = refl
same_default (p ∷ ps) (suc k) c d l = same_default ps k c d (omega (arith, l))

-- six steps, two after two
module _ (s0 s2 s4 s6 : Sums) (pairs : ℕ → CostPair) (at : ℕ) (w2 w4 w6 : List ℕ) (same4 : (k : ℕ) → k < at + 2 → get_or w4 k 0 ≡ get_or w2 k 0) (same6 : (k : ℕ) → k < at + 4 → get_or w6 k 0 ≡ get_or w4 k 0)
    (a : AreSteps s0 (pairs 0 ∷ pairs 1 ∷ []) s2 (in_order 0 (get_or w2 at 0) ∷ in_order 1 (get_or w2 (at + 1) 0) ∷ []))
    (b : AreSteps s2 (pairs 2 ∷ pairs 3 ∷ []) s4 (in_order 2 (get_or w4 (at + 2) 0) ∷ in_order 3 (get_or w4 (at + 2 + 1) 0) ∷ []))
    (c : AreSteps s4 (pairs 4 ∷ pairs 5 ∷ []) s6 (in_order 4 (get_or w6 (at + 4) 0) ∷ in_order 5 (get_or w6 (at + 4 + 1) 0) ∷ [])) where
  abbrev decisions : ℕ → ℕ
  decisions k = in_order k (get_or w6 (at + k) 0)

  same : (k i : ℕ) (w : List ℕ) → at + k ≡ i → get_or w6 i 0 ≡ get_or w i 0 → in_order k (get_or w i 0) ≡ decisions k
  same k i w e f = ap (in_order k) (sym f ∙ ap (λ i. get_or w6 i 0) (sym e))

  first : AreSteps s0 (pairs 0 ∷ pairs 1 ∷ []) s2 (decisions 0 ∷ decisions 1 ∷ [])
  first =
      let d0 = same 0 at w2 (omega arith) (same6 at (omega arith) ∙ same4 at (omega arith)) in
      let d1 = same 1 (at + 1) w2 (omega arith) (same6 (at + 1) (omega arith) ∙ same4 (at + 1) (omega arith)) in
      subst (λ ws. AreSteps s0 (pairs 0 ∷ pairs 1 ∷ []) s2 ws) (ap₂ (λ v w. v ∷ w ∷ []) d0 d1) a

  middle : AreSteps s2 (pairs 2 ∷ pairs 3 ∷ []) s4 (decisions 2 ∷ decisions 3 ∷ [])
  middle =
      let d2 = same 2 (at + 2) w4 (omega arith) (same6 (at + 2) (omega arith)) in
      let d3 = same 3 (at + 2 + 1) w4 (omega arith) (same6 (at + 2 + 1) (omega arith)) in
      subst (λ ws. AreSteps s2 (pairs 2 ∷ pairs 3 ∷ []) s4 ws) (ap₂ (λ v w. v ∷ w ∷ []) d2 d3) b

  last : AreSteps s4 (pairs 4 ∷ pairs 5 ∷ []) s6 (decisions 4 ∷ decisions 5 ∷ [])
  last =
      let d4 = same 4 (at + 4) w6 (omega arith) refl in
      let d5 = same 5 (at + 4 + 1) w6 (omega arith) refl in
      subst (λ ws. AreSteps s4 (pairs 4 ∷ pairs 5 ∷ []) s6 ws) (ap₂ (λ v w. v ∷ w ∷ []) d4 d5) c

  pub six_steps : AreSteps s0 (map pairs (range_with_len 0 6)) s6 (map decisions (range_with_len 0 6))
  six_steps =
      let four = steps_append s0 (pairs 0 ∷ pairs 1 ∷ []) s2 (decisions 0 ∷ decisions 1 ∷ []) (pairs 2 ∷ pairs 3 ∷ []) s4 (decisions 2 ∷ decisions 3 ∷ []) first middle in
      steps_append s0 (pairs 0 ∷ pairs 1 ∷ pairs 2 ∷ pairs 3 ∷ []) s4 (decisions 0 ∷ decisions 1 ∷ decisions 2 ∷ decisions 3 ∷ []) (pairs 4 ∷ pairs 5 ∷ []) s6 (decisions 4 ∷ decisions 5 ∷ []) four last

-- six steps more
module _ {X : Type 0} where
  take_six : (xs : List X) (n : ℕ) (f : ℕ → X) → n + 6 ≤ length xs → ((k : ℕ) → k < 6 → get_or xs (n + k) (f k) ≡ f k) → take (n + 6) xs ≡ take n xs ++ map f (range_with_len 0 6)
  take_six (a ∷ b ∷ c ∷ d ∷ e ∷ g ∷ xs) zero f l h =
      ap₂ (λ x ys. x ∷ ys) (h 0 (omega arith)) (
      ap₂ (λ x ys. x ∷ ys) (h 1 (omega arith)) (ap₂ (λ x ys. x ∷ ys) (h 2 (omega arith)) (ap₂ (λ x ys. x ∷ ys) (h 3 (omega arith)) (ap₂ (λ x y. x ∷ y ∷ []) (h 4 (omega arith)) (h 5 (omega arith))))))
  take_six (x ∷ xs) (suc n) f l h =
      let next : suc n + 6 ≡ suc (n + 6) = omega arith in
      ap (λ k. take k (x ∷ xs)) next ∙ ap (λ z. x ∷ z) (take_six xs n f (omega (arith, l)) (λ k m. let e : suc (n + k) ≡ suc n + k = omega arith in ap (λ i. get_or (x ∷ xs) i (f k)) e ∙ h k m))
  take_six [] n f l h = absurd (omega (arith, l))
  take_six (a ∷ []) zero f l h = absurd (omega (arith, l))
  take_six (a ∷ b ∷ []) zero f l h = absurd (omega (arith, l))
  take_six (a ∷ b ∷ c ∷ []) zero f l h = absurd (omega (arith, l))
  take_six (a ∷ b ∷ c ∷ d ∷ []) zero f l h = absurd (omega (arith, l))
  take_six (a ∷ b ∷ c ∷ d ∷ e ∷ []) zero f l h = absurd (omega (arith, l))

pub six_more : (start s0 s6 : Sums) (ps : List CostPair) (words : List ℕ) (at : ℕ) (pairs : ℕ → CostPair) (decisions : ℕ → ℕ) → at + 6 ≤ length ps → length words ≡ length ps → ((k : ℕ) → k < 6 → get_or ps (at + k) (pairs k) ≡ pairs k)
    → ((k : ℕ) → k < 6 → get_or words (at + k) (decisions k) ≡ decisions k) → AreSteps s0 (map pairs (range_with_len 0 6)) s6 (map decisions (range_with_len 0 6)) → AreSteps start (take at ps) s0 (take at words) → AreSteps start (take (at + 6) ps) s6 (take (at + 6) words)
six_more start s0 s6 ps words at pairs decisions l m f g s h =
    let ep = take_six ps at pairs l f in
    let ew = take_six words at decisions (omega (arith, l, m)) g in
    subst (λ z. AreSteps start z s6 (take (at + 6) words)) (sym ep)
    (subst (λ z. AreSteps start (take at ps ++ map pairs (range_with_len 0 6)) s6 z) (sym ew) (steps_append start (take at ps) s0 (take at words) (map pairs (range_with_len 0 6)) s6 (map decisions (range_with_len 0 6)) h s))

-- a word by another name of its place
pub at_place : (ws : List ℕ) (i j v : ℕ) → i ≡ j → get_or ws i 0 ≡ v → get_or ws j 0 ≡ v
at_place ws i j v e h = ap (λ i. get_or ws i 0) (sym e) ∙ h

-- another default, where there is a number
pub other_default : (ws : List ℕ) (k v w : ℕ) → k < length ws → get_or ws k v ≡ get_or ws k w
other_default [] k v w l = absurd (omega (arith, l))
other_default (x ∷ ws) zero v w l = refl
other_default (x ∷ ws) (suc k) v w l = other_default ws k v w (omega (arith, l))

-- two decisions written in a row
module _ (ws : List ℕ) (at v w : ℕ) (l : at + 2 ≤ length ws) where
  abbrev written : List ℕ
  written = slice_set (slice_set ws at v) (at + 1) w

  pub first_written : get_or written at 0 ≡ v
  first_written = let q : at ≢ at + 1 = omega arith in get_or-set_other (slice_set ws at v) (at + 1) at w 0 q ∙ get_or-set_same ws at v 0 (omega (arith, l))

  pub last_written : get_or written (at + 1) 0 ≡ w
  last_written = get_or-set_same (slice_set ws at v) (at + 1) w 0 (omega (arith, l, length-set ws at v))

  pub below_written : (k : ℕ) → k < at → get_or written k 0 ≡ get_or ws k 0
  below_written k m =
      let p : k ≢ at + 1 = omega (arith, m) in
      let q : k ≢ at = omega (arith, m) in
      get_or-set_other (slice_set ws at v) (at + 1) k w 0 p ∙ get_or-set_other ws at k v 0 q

  pub above_written : (k : ℕ) → at + 2 ≤ k → get_or written k 0 ≡ get_or ws k 0
  above_written k m =
      let p : k ≢ at + 1 = omega (arith, m) in
      let q : k ≢ at = omega (arith, m) in
      get_or-set_other (slice_set ws at v) (at + 1) k w 0 p ∙ get_or-set_other ws at k v 0 q

  pub two_steps : (s0 s1 s2 : Sums) (x y : CostPair) (p q : ℕ) → IsStep s0 x s1 (in_order p v) → IsStep s1 y s2 (in_order q w) → AreSteps s0 (x ∷ y ∷ []) s2 (in_order p (get_or written at 0) ∷ in_order q (get_or written (at + 1) 0) ∷ [])
  two_steps s0 s1 s2 x y p q s t =
      let h : AreSteps s0 (x ∷ y ∷ []) s2 (in_order p v ∷ in_order q w ∷ []) = (s1, s, (s2, t, refl)) in
      subst (λ z. AreSteps s0 (x ∷ y ∷ []) s2 z) (ap₂ (λ a b. in_order p a ∷ in_order q b ∷ []) (sym first_written) (sym last_written)) h

pub row_at : (m n : ℕ) → m ≡ n → (old : Sums) (ps : List CostPair) (new : Sums) (ws : List ℕ) → AreSteps old (take m ps) new (take m ws) → AreSteps old (take n ps) new (take n ws)
row_at m n e old ps new ws h = subst (λ n. AreSteps old (take n ps) new (take n ws)) e h

-- six steps more of a run: each word's decision is put in order later
module _ (start s0 s6 : Sums) (ps : List CostPair) (k : ℕ) (old new : List ℕ) (l : 6 * k + 6 ≤ length ps) (sums : (i : ℕ) → 6 * k ≤ i → i < 6 * k + 6 → get_or old i 0 ≡ get_or (map sum_word ps) i 0)
    (six : (pairs : ℕ → CostPair) → ((j : ℕ) → j < 6 → get_or old (6 * k + j) 0 ≡ sum_word (pairs j)) → AreSteps s0 (map pairs (range_with_len 0 6)) s6 (map (λ j. in_order j (get_or new (6 * k + j) 0)) (range_with_len 0 6)))
    (below : (i : ℕ) → i < 6 * k → get_or new i 0 ≡ get_or old i 0)
    (h : (words : List ℕ) → length words ≡ length ps → ((i : ℕ) → i < 6 * k → get_or words i 0 ≡ in_order (i % 6) (get_or old i 0)) → AreSteps start (take (6 * k) ps) s0 (take (6 * k) words)) where
  at_pair : (j : ℕ) → j < 6 → PairAt ps (6 * k + j)
  at_pair j m = pair_at ps (6 * k + j) (omega (arith, l, m))

  any : CostPair
  any = (at_pair 0 (omega arith)).pair

  abbrev pairs : ℕ → CostPair
  pairs j = get_or ps (6 * k + j) any

  sums_are : (j : ℕ) → j < 6 → get_or old (6 * k + j) 0 ≡ sum_word (pairs j)
  sums_are j m =
      let x = at_pair j m in
      sums (6 * k + j) (omega arith) (omega (arith, m)) ∙ x.sums ∙ ap sum_word (sym x.is ∙ same_default ps (6 * k + j) x.pair any (omega (arith, l, m)))

  pub steps_more : (words : List ℕ) → length words ≡ length ps → ((i : ℕ) → i < 6 * (k + 1) → get_or words i 0 ≡ in_order (i % 6) (get_or new i 0)) → AreSteps start (take (6 * (k + 1)) ps) s6 (take (6 * (k + 1)) words)
  steps_more words n same =
      row_at (6 * k + 6) (6 * (k + 1)) (omega arith) start ps s6 words
      (six_more start s0 s6 ps words (6 * k) pairs (λ j. in_order j (get_or new (6 * k + j) 0)) l n (λ j m. same_default ps (6 * k + j) (pairs j) any (omega (arith, l, m)))
      (λ j m.
      let e : (6 * k + j) % 6 ≡ j = omega (arith, m) in
      other_default words (6 * k + j) (in_order j (get_or new (6 * k + j) 0)) 0 (omega (arith, l, m, n)) ∙ same (6 * k + j) (omega (arith, m)) ∙ ap (λ p. in_order p (get_or new (6 * k + j) 0)) e)
      (six pairs sums_are) (h words n (λ i m. same i (omega (arith, m)) ∙ ap (in_order (i % 6)) (below i m))))

pub next_read : (ws : List ℕ) (at v : ℕ) → get_or (slice_set ws at v) (at + 1) 0 ≡ get_or ws (at + 1) 0
next_read ws at v = let q : at + 1 ≢ at = omega arith in get_or-set_other ws at (at + 1) v 0 q
