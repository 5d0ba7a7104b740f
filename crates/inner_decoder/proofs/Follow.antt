-- A step follows the least paths.
use Rattle.std.proofs.Common.{◌≡◌, ℕ, ◌+◌, ◌<◌, Bool, true, false, cond, not, ◌&&◌, ◌||◌, List, [], ◌∷◌, ◌++◌, drop, length, refl, sym, ap, ap₂, ◌∙◌, subst, arith, ltb, length-append, append_assoc, true≢false}
use Rattle.std.proofs.lemmas.Bool.{ltb-true, ltb-false, cond_both}
use Rattle.std.proofs.lemmas.List.{drop-append-le}
use Rattle.std.specs.Prelude.{slice_index, IsTrue}
use Rattle.std.specs.declared.option.Option.{Option}
use Rattle.code_paths.specs.declared.costs.CostPair.{CostPair}
use Rattle.acs_plain.specs.declared.sums.Sums.{Sums}
use Rattle.code_paths.specs.Paths.{LeastTo, total, step_cost}
use Rattle.code_paths.specs.States.{register}
use Rattle.spec_words.specs.Bits.{is_set}
use Rattle.acs_plain.specs.Steps.{alive, way, takes_odd, IsStep, SomeAlive}
use Rattle.code_paths.specs.States.{even_of, odd_of}
use Rattle.inner_decoder.specs.Tracking.{Tracks}
use Rattle.inner_decoder.specs.Metrics.{NeverWrap}
use Rattle.inner_decoder.proofs.Bounds.{begun, bounded_step}
use Rattle.code_paths.specs.Paths.{Unreached}
use Rattle.survivor_ring.specs.Survivors.{IsPushed, IsFollowed}
use Rattle.code_paths.specs.Laws.{longer_total}
use Rattle.code_paths.proofs.Extend.{even_wins, odd_wins, only_way, no_way, total_push}
use Rattle.acs_plain.proofs.Spread.{chosen_alive}
use Rattle.code_paths.proofs.Registers.{older, even_register, odd_register}

even_below : (n : ℕ) → even_of n < 64
even_below n = omega arith

odd_below : (n : ℕ) → odd_of n < 64
odd_below n = omega arith

-- the path to a state after a step
abbrev next_path : Sums → CostPair → (ℕ → List Bool) → ℕ → List Bool
next_path old x path n = path (cond (takes_odd old x n) (odd_of n) (even_of n)) ++ is_set n 5 ∷ []

module _ (b : Option (List Bool)) (d : List CostPair) (gave : List Bool) (old : Sums) (waits : ℕ → List Bool) (waiting : ℕ) (x : CostPair) (h : Tracks b d gave old waits waiting) where
  even_least : (n : ℕ) → n < 64 → alive old (even_of n) ≡ true → LeastTo b d (false ∷ older n) (h.path (even_of n))
  even_least n l t = subst (λ e. LeastTo b d e (h.path (even_of n))) (even_register n l) (h.least (even_of n) (even_below n) t)

  odd_least : (n : ℕ) → n < 64 → alive old (odd_of n) ≡ true → LeastTo b d (true ∷ older n) (h.path (odd_of n))
  odd_least n l t = subst (λ e. LeastTo b d e (h.path (odd_of n))) (odd_register n l) (h.least (odd_of n) (odd_below n) t)

  even_none : (n : ℕ) → n < 64 → alive old (even_of n) ≡ false → Unreached b d (false ∷ older n)
  even_none n l t = subst (Unreached b d) (even_register n l) (h.none (even_of n) (even_below n) t)

  odd_none : (n : ℕ) → n < 64 → alive old (odd_of n) ≡ false → Unreached b d (true ∷ older n)
  odd_none n l t = subst (Unreached b d) (odd_register n l) (h.none (odd_of n) (odd_below n) t)

  even_way : (n : ℕ) → n < 64 → alive old (even_of n) ≡ true → way old x (even_of n) n + h.less ≡ longer_total d x (h.path (even_of n)) false (older n) (is_set n 5)
  even_way n l t = omega (arith, h.cost (even_of n) (even_below n) t, ap (λ r. step_cost x (r ++ is_set n 5 ∷ [])) (even_register n l))

  odd_way : (n : ℕ) → n < 64 → alive old (odd_of n) ≡ true → way old x (odd_of n) n + h.less ≡ longer_total d x (h.path (odd_of n)) true (older n) (is_set n 5)
  odd_way n l t = omega (arith, h.cost (odd_of n) (odd_below n) t, ap (λ r. step_cost x (r ++ is_set n 5 ∷ [])) (odd_register n l))

  -- the choice between the two ways, once it is known which are alive
  abbrev pub chosen : (n : ℕ) → Bool → List Bool
  chosen n odd = h.path (cond odd (odd_of n) (even_of n)) ++ is_set n 5 ∷ []

  both_least : (n : ℕ) → n < 64 → alive old (even_of n) ≡ true → alive old (odd_of n) ≡ true → (t : Bool) → ltb (way old x (odd_of n) n) (way old x (even_of n) n) ≡ t → LeastTo b (d ++ x ∷ []) (register n) (chosen n t)
  both_least n l p q true t = odd_wins b d x (older n) (is_set n 5) _ _ (even_least n l p) (odd_least n l q) (omega (arith, ltb-true _ _ t, even_way n l p, odd_way n l q))
  both_least n l p q false t = even_wins b d x (older n) (is_set n 5) _ _ (even_least n l p) (odd_least n l q) (omega (arith, ltb-false _ _ t, even_way n l p, odd_way n l q))

  pub next_least : (n : ℕ) → n < 64 → (e o : Bool) → alive old (even_of n) ≡ e → alive old (odd_of n) ≡ o → (e || o) ≡ true → LeastTo b (d ++ x ∷ []) (register n) (chosen n (o && (not e || ltb (way old x (odd_of n) n) (way old x (even_of n) n))))
  next_least n l true true p q t = both_least n l p q _ refl
  next_least n l true false p q t = only_way b d x (older n) (is_set n 5) false _ (even_least n l p) (odd_none n l q)
  next_least n l false true p q t = only_way b d x (older n) (is_set n 5) true _ (odd_least n l q) (even_none n l p)
  next_least n l false false p q t = absurd (true≢false (sym t))

  pub next_none : (n : ℕ) → n < 64 → (e o : Bool) → alive old (even_of n) ≡ e → alive old (odd_of n) ≡ o → (e || o) ≡ false → Unreached b (d ++ x ∷ []) (register n)
  next_none n l false false p q t = no_way b d x (older n) (is_set n 5) (even_none n l p) (odd_none n l q)
  next_none n l true o p q t = absurd (true≢false t)
  next_none n l false true p q t = absurd (true≢false t)

-- a step keeps the tracking
pub tracks_step : (b : Option (List Bool)) (d : List CostPair) (gave : List Bool) (old : Sums) (waits : ℕ → List Bool) (waiting : ℕ) (x : CostPair) (new : Sums) (answer : ℕ) (more : ℕ → List Bool)
    → SomeAlive old → Tracks b d gave old waits waiting → IsStep old x new answer → IsPushed waits answer new.alive more → Tracks b (d ++ x ∷ []) gave new more (waiting + 1)
tracks_step b d gave old waits waiting x new answer more some h s p = record {
  less = h.less + s.less;
  path = λ n. next_path old x h.path n;
  long = omega (arith, h.long, length-append d (x ∷ []));
  least = λ n l t. next_least b d gave old waits waiting x h n l _ _ refl refl (sym (s.lives n l) ∙ t);
  cost = λ n l t. next_cost n l (alive old (even_of n)) (alive old (odd_of n)) refl refl (sym (s.lives n l) ∙ t) (s.cost n l t);
  bits = λ n l t. next_bits n l t;
  none = λ n l t. next_none b d gave old waits waiting x h n l _ _ refl refl (sym (s.lives n l) ∙ t);
  bounded = subst (λ k. NeverWrap b k new) (sym (length-append d (x ∷ []))) (bounded_step b (length d) old h.bounded x new answer s (begun b d _ _ (h.least some.state some.below some.lives)));
}
  where
    -- the state that the step chose
    from : ℕ → ℕ
    from n = cond (takes_odd old x n) (odd_of n) (even_of n)

    from_below : (n : ℕ) → from n < 64
    from_below n = cond_both (takes_odd old x n) (odd_of n) (even_of n) (λ k. k < 64) (λ e. odd_below n) (λ e. even_below n)

    from_alive : (n : ℕ) → n < 64 → (e o : Bool) → alive old (even_of n) ≡ e → alive old (odd_of n) ≡ o → (e || o) ≡ true → alive old (cond (o && (not e || ltb (way old x (odd_of n) n) (way old x (even_of n) n))) (odd_of n) (even_of n)) ≡ true
    from_alive n l true true p q t = cond_both (ltb (way old x (odd_of n) n) (way old x (even_of n) n)) (odd_of n) (even_of n) (λ k. alive old k ≡ true) (λ e. q) (λ e. p)
    from_alive n l true false p q t = p
    from_alive n l false true p q t = q
    from_alive n l false false p q t = absurd (true≢false (sym t))

    next_cost : (n : ℕ) → n < 64 → (e o : Bool) → alive old (even_of n) ≡ e → alive old (odd_of n) ≡ o → (e || o) ≡ true
        → slice_index new.cost n + s.less ≡ way old x (from n) n
        → slice_index new.cost n + (h.less + s.less) ≡ total (d ++ x ∷ []) (next_path old x h.path n)
    next_cost n l e o u v t c =
        let f = from_alive n l _ _ refl refl (ap₂ (λ y z. y || z) u v ∙ t) in
        let w = h.least (from n) (from_below n) f in
        omega (
          arith,
          c,
          h.cost (from n) (from_below n) f,
          total_push d x (h.path (from n)) (is_set n 5) w.path.long,
          ap (λ r. step_cost x (r ++ is_set n 5 ∷ [])) w.ends,
        )

    next_bits : (n : ℕ) → n < 64 → IsTrue (alive new n) → drop 6 (next_path old x h.path n) ≡ gave ++ more n
    next_bits n l t =
        let f = from_alive n l _ _ refl refl (sym (s.lives n l) ∙ t) in
        let w = h.least (from n) (from_below n) f in
        drop-append-le 6 (h.path (from n)) (is_set n 5 ∷ []) (omega (arith, w.path.long))
        ∙ ap (λ z. z ++ is_set n 5 ∷ []) (h.bits (from n) (from_below n) f)
        ∙ append_assoc gave (waits (from n)) (is_set n 5 ∷ [])
        ∙ ap (λ z. gave ++ z) (sym (p.each n l t ∙ ap (λ z. waits (cond z (odd_of n) (even_of n)) ++ is_set n 5 ∷ []) (s.choice n l t)))

-- the next set of states
pub followed : (old : Sums) (x : CostPair) (new : Sums) (answer : ℕ) → IsStep old x new answer → IsFollowed old.alive answer new.alive
followed old x new answer s = record {
  lives = s.lives;
  chose = λ n l t. ap (λ z. alive old (cond z (odd_of n) (even_of n))) (s.choice n l t) ∙ chosen_alive old x n _ _ refl refl (sym (s.lives n l) ∙ t);
}
