-- The entries of the receiving side.
use Rattle.std.proofs.Common.{◌≡◌, ℕ, zero, suc, ◌+◌, ◌-◌, ◌*◌, ◌/◌, ◌%◌, ◌<◌, ◌≤◌, ◌⊎◌, inl, inr, Bool, true, false, cond, List, [], ◌∷◌, length, refl, sym, ap, ◌∙◌, subst, arith}
use Rattle.std.specs.Prelude.{slice_index, Some, None, count_by, nat_le}
use Rattle.std.proofs.lemmas.Bool.{cases_lt}
use Rattle.std.proofs.lemmas.List.{get_or_append_left, get_or-append_right, length-append}
use Rattle.mode_set.specs.StreamTable.{coded, need, rate, steps_in_period, sent_in_period}
use Rattle.mode_set.specs.declared.modes.Rate.{Rate}
use Rattle.mode_set.specs.declared.modes.Rate.TheVariants.{R1of2, R2of3, R3of4, R5of6, R7of8}
use Rattle.mode_set.specs.declared.modes.Stream.{Stream}
use Rattle.mode_set.specs.declared.settings.Settings.{Settings}
use Rattle.puncture.specs.SentBits.{X, Y, sent}
use Rattle.puncture.specs.Steps.{is_sent, number_of, sent_before, step_in_period}
use Rattle.puncture.specs.Laws.{StepsAreNumbered}
use Rattle.inner_chain.specs.CostTables.{block_coded, block_steps, entry_at, IsPlaced, IsSmallEntry, count_of, second, AreCostEntries, AppendsTwo}
use Rattle.inner_chain.proofs.Blocks.{block_periods}
use Rattle.inner_chain.proofs.Entering.{periods}

-- ---- how many bits are sent
grows : (r : Rate) (law : StepsAreNumbered) (t n : ℕ) → sent_before r t ≤ sent_before r (t + n)
grows r law t zero = let same : t + 0 ≡ t = omega arith in omega (arith, ap (sent_before r) same)
grows r law t (suc n) =
    let next : t + suc n ≡ t + n + 1 = omega arith in
    let here : sent_before r (t + n + 1) ≡ sent_before r (t + n) + count_of (is_sent r X (t + n)) + count_of (is_sent r Y (t + n)) = (law r (t + n)).grows in
    omega (arith, grows r law t n, here, ap (sent_before r) next)

none_yet : (r : Rate) → count_by (λ c. nat_le (step_in_period c) 0) (sent r) ≡ 0
none_yet R1of2 = refl
none_yet R2of3 = refl
none_yet R3of4 = refl
none_yet R5of6 = refl
none_yet R7of8 = refl

whole_steps : (r : Rate) (p : ℕ) → (p * steps_in_period r / steps_in_period r ≡ p) × (p * steps_in_period r % steps_in_period r ≡ 0)
whole_steps R1of2 p = (omega arith, omega arith)
whole_steps R2of3 p = (omega arith, omega arith)
whole_steps R3of4 p = (omega arith, omega arith)
whole_steps R5of6 p = (omega arith, omega arith)
whole_steps R7of8 p = (omega arith, omega arith)

sent_whole : (r : Rate) (p : ℕ) → sent_before r (p * steps_in_period r) ≡ p * sent_in_period r
sent_whole r p =
    let w = whole_steps r p in
    let first : p * steps_in_period r / steps_in_period r * sent_in_period r ≡ p * sent_in_period r = ap (λ (z : ℕ). z * sent_in_period r) w.0 in
    let none : count_by (λ c. nat_le (step_in_period c) (p * steps_in_period r % steps_in_period r)) (sent r) ≡ 0 = ap (λ (z : ℕ). count_by (λ c. nat_le (step_in_period c) z) (sent r)) w.1 ∙ none_yet r in
    omega (arith, first, none)

sent_all : (s : Settings) (σ : Stream) → sent_before (rate s σ) (block_steps s σ) ≡ block_coded s σ
sent_all s σ =
    let p = block_periods s σ in
    ap (sent_before (rate s σ)) (sym p.1) ∙ sent_whole (rate s σ) (block_coded s σ - block_steps s σ) ∙ p.0

sent_most : (s : Settings) (law : StepsAreNumbered) (σ : Stream) (t : ℕ) → t ≤ block_steps s σ → sent_before (rate s σ) t ≤ block_coded s σ
sent_most s law σ t l =
    let all : t + (block_steps s σ - t) ≡ block_steps s σ = omega (arith, l) in
    omega (arith, grows (rate s σ) law t (block_steps s σ - t), ap (sent_before (rate s σ)) all, sent_all s σ)

-- the same of all steps of a symbol
all_sent : (s : Settings) (σ : Stream) → sent_before (rate s σ) (need s σ) ≡ coded s σ
all_sent s σ =
    let p = periods s σ in
    ap (sent_before (rate s σ)) (sym p.1) ∙ sent_whole (rate s σ) (coded s σ - need s σ) ∙ p.0

pub most_sent : (s : Settings) (law : StepsAreNumbered) (σ : Stream) (t : ℕ) → t ≤ need s σ → sent_before (rate s σ) t ≤ coded s σ
most_sent s law σ t l =
    let all : t + (need s σ - t) ≡ need s σ = omega (arith, l) in
    omega (arith, grows (rate s σ) law t (need s σ - t), ap (sent_before (rate s σ)) all, all_sent s σ)

pub step_fits : (s : Settings) (law : StepsAreNumbered) (σ : Stream) (r : Rate) (t bit : ℕ) (x y : Bool) → r ≡ rate s σ → x ≡ is_sent r X t → y ≡ is_sent r Y t → bit ≡ sent_before (rate s σ) t → t < block_steps s σ
    → bit + count_of x + count_of y ≤ block_coded s σ
step_fits s law σ r t bit x y er ex ey eb l =
    let x' : count_of x ≡ count_of (is_sent (rate s σ) X t) = ap count_of (ex ∙ ap (λ (z : Rate). is_sent z X t) er) in
    let y' : count_of y ≡ count_of (is_sent (rate s σ) Y t) = ap count_of (ey ∙ ap (λ (z : Rate). is_sent z Y t) er) in
    omega (arith, eb, x', y', (law (rate s σ) t).grows, sent_most s law σ (t + 1) (omega (arith, l)))

pub number_next : (s : Settings) (law : StepsAreNumbered) (σ : Stream) (r : Rate) (t bit next : ℕ) (x y : Bool) → r ≡ rate s σ → x ≡ is_sent r X t → y ≡ is_sent r Y t → bit ≡ sent_before (rate s σ) t → next ≡ bit + count_of x + count_of y
    → next ≡ sent_before (rate s σ) (t + 1)
number_next s law σ r t bit next x y er ex ey eb en =
    let x' : count_of x ≡ count_of (is_sent (rate s σ) X t) = ap count_of (ex ∙ ap (λ (z : Rate). is_sent z X t) er) in
    let y' : count_of y ≡ count_of (is_sent (rate s σ) Y t) = ap count_of (ey ∙ ap (λ (z : Rate). is_sent z Y t) er) in
    omega (arith, en, eb, x', y', (law (rate s σ) t).grows)

second_is : (b : Bool) (n : ℕ) → second b n ≡ n + cond b 1 0
second_is true n = refl
second_is false n = omega arith

-- ---- the entries of one step more
pub step_more : (s : Settings) (law : StepsAreNumbered) (σ : Stream) (r : Rate) (n bit : ℕ) (x y : Bool) (old new : List ℕ) → r ≡ rate s σ → x ≡ is_sent r X n → y ≡ is_sent r Y n → bit ≡ sent_before (rate s σ) n
    → AreCostEntries s σ n old → AppendsTwo s σ (cond x (Some bit) None) (cond y (Some (second x bit)) None) old new → AreCostEntries s σ (n + 1) new
step_more s law σ r n bit x y old new er ex ey eb a two = record { long = long; x = xs; y = ys; x_placed = xs_placed; y_placed = ys_placed; small = small }
  where
    a' : ℕ
    a' = entry_at s σ (cond x (Some bit) None)

    b' : ℕ
    b' = entry_at s σ (cond y (Some (second x bit)) None)

    x_is : cond x (Some bit) None ≡ number_of (rate s σ) X n
    x_is = ap (λ (z : Bool). cond z (Some bit) None) (ex ∙ ap (λ (z : Rate). is_sent z X n) er) ∙ ap (λ (z : ℕ). cond (is_sent (rate s σ) X n) (Some z) None) eb ∙ sym (law (rate s σ) n).x

    y_is : cond y (Some (second x bit)) None ≡ number_of (rate s σ) Y n
    y_is =
        ap (λ (z : Bool). cond z (Some (second x bit)) None) (ey ∙ ap (λ (z : Rate). is_sent z Y n) er)
        ∙ ap (λ (z : Bool). cond (is_sent (rate s σ) Y n) (Some (second z bit)) None) (ex ∙ ap (λ (z : Rate). is_sent z X n) er)
        ∙ ap (λ (z : ℕ). cond (is_sent (rate s σ) Y n) (Some (second (is_sent (rate s σ) X n) z)) None) eb
        ∙ ap (λ (z : ℕ). cond (is_sent (rate s σ) Y n) (Some z) None) (second_is (is_sent (rate s σ) X n) (sent_before (rate s σ) n))
        ∙ sym (law (rate s σ) n).y

    long : length new ≡ 2 * (n + 1)
    long = let sum : length new ≡ length old + 2 = ap (λ (zs : List ℕ). length zs) two.is ∙ length-append old (a' ∷ b' ∷ []) in omega (arith, sum, a.long)

    left : (k : ℕ) → k < length old → slice_index new k ≡ slice_index old k
    left k l = ap (λ (zs : List ℕ). slice_index zs k) two.is ∙ get_or_append_left old (a' ∷ b' ∷ []) 0 k l

    right : (k j : ℕ) → k ≡ 2 * n + j → slice_index new k ≡ slice_index (a' ∷ b' ∷ []) j
    right k j e =
        let past : 2 * n ≤ k = omega (arith, e) in
        let place : k - 2 * n ≡ j = omega (arith, e) in
        ap (λ (zs : List ℕ). slice_index zs k) two.is ∙ get_or-append_right old (a' ∷ b' ∷ []) (2 * n) k 0 a.long past ∙ ap (slice_index (a' ∷ b' ∷ [])) place

    xs : (t : ℕ) → t < n + 1 → slice_index new (2 * t) ≡ entry_at s σ (number_of (rate s σ) X t)
    xs t l = go (cases_lt t n)
      where
        go : (t < n) ⊎ (n ≤ t) → slice_index new (2 * t) ≡ entry_at s σ (number_of (rate s σ) X t)
        go (inl m) = left (2 * t) (omega (arith, m, a.long)) ∙ a.x t m
        go (inr m) = let same : n ≡ t = omega (arith, l, m) in
            subst (λ (z : ℕ). slice_index new (2 * z) ≡ entry_at s σ (number_of (rate s σ) X z)) same (right (2 * n) 0 (omega arith) ∙ ap (entry_at s σ) x_is)

    ys : (t : ℕ) → t < n + 1 → slice_index new (2 * t + 1) ≡ entry_at s σ (number_of (rate s σ) Y t)
    ys t l = go (cases_lt t n)
      where
        go : (t < n) ⊎ (n ≤ t) → slice_index new (2 * t + 1) ≡ entry_at s σ (number_of (rate s σ) Y t)
        go (inl m) = left (2 * t + 1) (omega (arith, m, a.long)) ∙ a.y t m
        go (inr m) = let same : n ≡ t = omega (arith, l, m) in
            subst (λ (z : ℕ). slice_index new (2 * z + 1) ≡ entry_at s σ (number_of (rate s σ) Y z)) same (right (2 * n + 1) 1 refl ∙ ap (entry_at s σ) y_is)

    xs_placed : (t : ℕ) → t < n + 1 → IsPlaced s σ (number_of (rate s σ) X t)
    xs_placed t l = go (cases_lt t n)
      where
        go : (t < n) ⊎ (n ≤ t) → IsPlaced s σ (number_of (rate s σ) X t)
        go (inl m) = a.x_placed t m
        go (inr m) = let same : n ≡ t = omega (arith, l, m) in subst (λ (z : ℕ). IsPlaced s σ (number_of (rate s σ) X z)) same (subst (IsPlaced s σ) x_is two.x_placed)

    ys_placed : (t : ℕ) → t < n + 1 → IsPlaced s σ (number_of (rate s σ) Y t)
    ys_placed t l = go (cases_lt t n)
      where
        go : (t < n) ⊎ (n ≤ t) → IsPlaced s σ (number_of (rate s σ) Y t)
        go (inl m) = a.y_placed t m
        go (inr m) = let same : n ≡ t = omega (arith, l, m) in subst (λ (z : ℕ). IsPlaced s σ (number_of (rate s σ) Y z)) same (subst (IsPlaced s σ) y_is two.y_placed)

    small : (k : ℕ) → k < length new → IsSmallEntry (slice_index new k)
    small k l = go (cases_lt k (2 * n)) (cases_lt k (2 * n + 1))
      where
        go : (k < 2 * n) ⊎ (2 * n ≤ k) → (k < 2 * n + 1) ⊎ (2 * n + 1 ≤ k) → IsSmallEntry (slice_index new k)
        go (inl m) q = omega (arith, left k (omega (arith, m, a.long)), a.small k (omega (arith, m, a.long)))
        go (inr m) (inl q) = omega (arith, right k 0 (omega (arith, m, q)), two.x_small)
        go (inr m) (inr q) = omega (arith, right k 1 (omega (arith, l, q, long)), two.y_small)
