-- The numbers of the bits of a step, and their values on a path.
use Rattle.std.proofs.Common.{◌≡◌, ℕ, ◌+◌, ◌-◌, ◌*◌, ◌/◌, ◌%◌, ◌<◌, ◌≤◌, ◌⊎◌, inl, inr, [], ◌∷◌, length, map, refl, sym, ap, ◌∙◌, subst, arith, Bool, true, false, cond, ◌||◌}
use Rattle.std.specs.Prelude.{count_by, nat_le, Some, None}
use Rattle.std.specs.List.{range_with_len}
use Rattle.std.proofs.lemmas.Bool.{cases_lt}
use Rattle.std.proofs.lemmas.List.Sums.{count_by-le-length}
use Rattle.code_paths.specs.Paths.{parity_x, parity_y}
use Rattle.mode_set.specs.StreamTable.{coded, need, rate, steps_in_period, sent_in_period}
use Rattle.mode_set.specs.Laws.{periods, SymbolsHaveWholePeriods}
use Rattle.mode_set.specs.declared.modes.Rate.{Rate}
use Rattle.mode_set.specs.declared.modes.Rate.TheVariants.{R1of2, R2of3, R3of4, R5of6, R7of8}
use Rattle.mode_set.specs.declared.modes.Stream.{Stream}
use Rattle.mode_set.specs.declared.settings.Settings.{Settings}
use Rattle.puncture.specs.SentBits.{X, Y, sent, sent_bit, window}
use Rattle.puncture.specs.Steps.{is_sent, number_of, sent_before, step_in_period, bits_sent}
use Rattle.puncture.specs.Laws.{StepsSendInOrder, StepsAreNumbered}

-- ---- how many bits are sent
none_yet : (r : Rate) → count_by (λ c. nat_le (step_in_period c) 0) (sent r) ≡ 0
none_yet R1of2 = refl
none_yet R2of3 = refl
none_yet R3of4 = refl
none_yet R5of6 = refl
none_yet R7of8 = refl

many : (r : Rate) → length (sent r) ≡ sent_in_period r
many R1of2 = refl
many R2of3 = refl
many R3of4 = refl
many R5of6 = refl
many R7of8 = refl

-- a step is one of the first p periods, or the first after them
in_periods : (r : Rate) (p u : ℕ) → u ≤ p * steps_in_period r → (u / steps_in_period r < p) ⊎ ((u / steps_in_period r ≡ p) × (u % steps_in_period r ≡ 0))
in_periods R1of2 p u l = elim (cases_lt (u / 1) p) [ inl a ↦ inl a | inr a ↦ inr (omega (arith, a, l), omega arith) ]
in_periods R2of3 p u l = elim (cases_lt (u / 2) p) [ inl a ↦ inl a | inr a ↦ inr (omega (arith, a, l), omega (arith, a, l)) ]
in_periods R3of4 p u l = elim (cases_lt (u / 3) p) [ inl a ↦ inl a | inr a ↦ inr (omega (arith, a, l), omega (arith, a, l)) ]
in_periods R5of6 p u l = elim (cases_lt (u / 5) p) [ inl a ↦ inl a | inr a ↦ inr (omega (arith, a, l), omega (arith, a, l)) ]
in_periods R7of8 p u l = elim (cases_lt (u / 7) p) [ inl a ↦ inl a | inr a ↦ inr (omega (arith, a, l), omega (arith, a, l)) ]

row_within : (a p n k : ℕ) → a < p → k ≤ n → a * n + k ≤ p * n
row_within a p n k l m = grind arith

before_most : (r : Rate) (p u : ℕ) → u ≤ p * steps_in_period r → sent_before r u ≤ p * sent_in_period r
before_most r p u l = go (in_periods r p u l)
  where
    go : (u / steps_in_period r < p) ⊎ ((u / steps_in_period r ≡ p) × (u % steps_in_period r ≡ 0)) → sent_before r u ≤ p * sent_in_period r
    go (inl a) = row_within (u / steps_in_period r) p (sent_in_period r) _ a (subst (λ (z : ℕ). count_by (λ c. nat_le (step_in_period c) (u % steps_in_period r)) (sent r) ≤ z) (many r) (count_by-le-length (λ c. nat_le (step_in_period c) (u % steps_in_period r)) (sent r)))
    go (inr b) =
        let whole : u / steps_in_period r * sent_in_period r ≡ p * sent_in_period r = ap (λ (z : ℕ). z * sent_in_period r) b.0 in
        let none : count_by (λ c. nat_le (step_in_period c) (u % steps_in_period r)) (sent r) ≡ 0 = ap (λ (z : ℕ). count_by (λ c. nat_le (step_in_period c) z) (sent r)) b.1 ∙ none_yet r in
        omega (arith, whole, none)

-- ---- the bits of one step X of a step has the number n, and so has Y, if they are sent
pub record IsNumberOf (r : Rate) (t : ℕ) (sx sy : Bool) (n : ℕ) : Type 0 where
  pub x : number_of r X t ≡ cond sx (Some n) None
  pub y : number_of r Y t ≡ cond sy (Some (n + cond sx 1 0)) None
  pub some : (sx || sy) ≡ true

-- the sent bits of a step are those with these numbers
two_sent : (f : ℕ → Bool) (a b : ℕ) (sx sy x y : Bool) → b ≡ a + cond sx 1 0 + cond sy 1 0 → bits_sent sx sy x y ≡ map f (range_with_len a (b - a)) → (sx ≡ true → f a ≡ x) × (sy ≡ true → f (a + cond sx 1 0) ≡ y)
two_sent f a b true true x y e h =
    let n : b - a ≡ 2 = omega (arith, e) in
    let l : x ∷ y ∷ [] ≡ f a ∷ f (a + 1) ∷ [] = h ∙ ap (λ (z : ℕ). map f (range_with_len a z)) n in
    (λ p. cc, λ p. cc)
two_sent f a b true false x y e h =
    let n : b - a ≡ 1 = omega (arith, e) in
    let l : x ∷ [] ≡ f a ∷ [] = h ∙ ap (λ (z : ℕ). map f (range_with_len a z)) n in
    (λ p. cc, λ p. absurd (cc))
two_sent f a b false true x y e h =
    let n : b - a ≡ 1 = omega (arith, e) in
    let same : a + 0 ≡ a = omega arith in
    let l : y ∷ [] ≡ f a ∷ [] = h ∙ ap (λ (z : ℕ). map f (range_with_len a z)) n in
    let here : f a ≡ y = cc in
    (λ p. absurd (cc), λ p. ap f same ∙ here)
two_sent f a b false false x y e h = (λ p. absurd (cc), λ p. absurd (cc))

pub record AreParities (r : Rate) (path : ℕ → Bool) (t : ℕ) (sx sy : Bool) (n : ℕ) : Type 0 where
  pub x : sx ≡ true → sent_bit r path n ≡ parity_x (window path t)
  pub y : sy ≡ true → sent_bit r path (n + cond sx 1 0) ≡ parity_y (window path t)

pub parities : StepsSendInOrder → StepsAreNumbered → (r : Rate) (path : ℕ → Bool) (t : ℕ) → AreParities r path t (is_sent r X t) (is_sent r Y t) (sent_before r t)
parities order law r path t =
    let p = two_sent (sent_bit r path) (sent_before r t) (sent_before r (t + 1)) (is_sent r X t) (is_sent r Y t) (parity_x (window path t)) (parity_y (window path t)) (law r t).grows (order r path t) in
    record { x = p.0; y = p.1 }

-- the numbers of the bits of a step of a symbol are numbers of coded bits
pub record AreWithin (sx sy : Bool) (n most : ℕ) : Type 0 where
  pub x : sx ≡ true → n < most
  pub y : sy ≡ true → n + cond sx 1 0 < most

within_most : (a b most : ℕ) (sx sy : Bool) → b ≡ a + cond sx 1 0 + cond sy 1 0 → b ≤ most → AreWithin sx sy a most
within_most a b most true true e l = record { x = λ p. omega (arith, e, l); y = λ p. omega (arith, e, l) }
within_most a b most true false e l = record { x = λ p. omega (arith, e, l); y = λ p. absurd (cc) }
within_most a b most false true e l = record { x = λ p. absurd (cc); y = λ p. omega (arith, e, l) }
within_most a b most false false e l = record { x = λ p. absurd (cc); y = λ p. absurd (cc) }

pub numbers_within : StepsAreNumbered → SymbolsHaveWholePeriods → (s : Settings) (σ : Stream) (t : ℕ) → t < need s σ → AreWithin (is_sent (rate s σ) X t) (is_sent (rate s σ) Y t) (sent_before (rate s σ) t) (coded s σ)
numbers_within law whole s σ t l =
    let w = whole s σ in
    let most : sent_before (rate s σ) (t + 1) ≤ coded s σ = up (sent_before (rate s σ) (t + 1)) (before_most (rate s σ) (periods s σ) (t + 1) (next (need s σ) w.need l)) (sym w.coded) in
    within_most (sent_before (rate s σ) t) (sent_before (rate s σ) (t + 1)) (coded s σ) (is_sent (rate s σ) X t) (is_sent (rate s σ) Y t) (law (rate s σ) t).grows most
  where
    next : {p : ℕ} (n : ℕ) → n ≡ p → t < n → t + 1 ≤ p
    next n e k = omega (arith, e, k)

    up : {b c : ℕ} (a : ℕ) → a ≤ b → b ≡ c → a ≤ c
    up a k e = omega (arith, k, e)
