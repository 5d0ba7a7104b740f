-- Sums over the numbers below n, and the spans that they count.
use Rattle.std.proofs.Common.{◌≡◌, ℕ, zero, suc, ◌+◌, ◌-◌, ◌*◌, ◌/◌, ◌<◌, ◌≤◌, ◌⊎◌, inl, inr, List, refl, sym, ap, ◌∙◌, subst, arith}
use Rattle.std.specs.Prelude.{sum_by}
use Rattle.std.proofs.lemmas.Bool.{cases_lt}
use Rattle.std.proofs.lemmas.List.Sums.{sum_by_push}
use Rattle.spec_words.specs.Words.{numbers}
use Rattle.spec_words.proofs.Counting.{numbers_end}
use Rattle.mode_set.specs.StreamTable.{need}
use Rattle.mode_set.specs.Laws.{SuperFramesHaveWholeWords}
use Rattle.mode_set.specs.declared.modes.Stream.{Stream}
use Rattle.mode_set.specs.declared.settings.Settings.{Settings}
use Rattle.symbol_parameters.specs.Spans.{settings_in, steps_of, steps_before, IsStepOf, words_in, words_before}
use Rattle.symbol_parameters.specs.Laws.{NoSteps, StepsOfOneMore, StepsGrow, StepsHaveSymbols, OneSymbol, NoWords, WordsOfOneMore, WordsGrow, SpansHaveWholeWords}

-- ---- one more
sum_more : (f : ℕ → ℕ) (n : ℕ) → sum_by f (numbers (n + 1)) ≡ sum_by f (numbers n) + f n
sum_more f n = ap (λ (xs : List ℕ). sum_by f xs) (numbers_end n) ∙ sum_by_push f (numbers n) n

pub no_steps : NoSteps
unfolding steps_before numbers
no_steps s σ = refl

pub steps_of_one_more : StepsOfOneMore
unfolding steps_before
steps_of_one_more s σ m = sum_more (steps_of s σ) m

pub no_words : NoWords
unfolding words_before numbers
no_words s σ = refl

pub words_of_one_more : WordsOfOneMore
unfolding words_before
words_of_one_more s σ n = sum_more (words_in s σ) n

-- ---- running sums grow
at_most : (a b c : ℕ) → a ≤ b → b ≤ c → a ≤ c
at_most a b c x y = omega (arith, x, y)

grows_by : (f : ℕ → ℕ) → ((n : ℕ) → f n ≤ f (n + 1)) → (m k : ℕ) → f m ≤ f (m + k)
grows_by f more m zero = let e : m + 0 ≡ m = omega arith in subst (λ (z : ℕ). f m ≤ f z) (sym e) (omega arith)
grows_by f more m (suc k) =
    let e : m + suc k ≡ m + k + 1 = omega arith in
    subst (λ (z : ℕ). f m ≤ f z) (sym e) (at_most (f m) (f (m + k)) (f (m + k + 1)) (grows_by f more m k) (more (m + k)))

grows : (f : ℕ → ℕ) → ((n : ℕ) → f n ≤ f (n + 1)) → (m n : ℕ) → m ≤ n → f m ≤ f n
grows f more m n l = let e : m + (n - m) ≡ n = omega (arith, l) in subst (λ (z : ℕ). f m ≤ f z) e (grows_by f more m (n - m))

steps_more : (s : Settings) (σ : Stream) (m : ℕ) → steps_before s σ m ≤ steps_before s σ (m + 1)
steps_more s σ m = let e = steps_of_one_more s σ m in omega (arith, e)

pub steps_grow : StepsGrow
steps_grow s σ m n l = grows (steps_before s σ) (steps_more s σ) m n l

words_more : (s : Settings) (σ : Stream) (n : ℕ) → words_before s σ n ≤ words_before s σ (n + 1)
words_more s σ n = let e = words_of_one_more s σ n in omega (arith, e)

pub words_grow : WordsGrow
words_grow s σ m n l = grows (words_before s σ) (words_more s σ) m n l

-- ---- super-frames the first k symbols of super-frame j have the settings of that super-frame
within_frame : (s : Settings) (σ : Stream) (j k : ℕ) → k ≤ 272 → steps_before s σ (272 * j + k) ≡ steps_before s σ (272 * j) + k * need (settings_in s j) σ
within_frame s σ j zero l = let e : 272 * j + 0 ≡ 272 * j = omega arith in let f = ap (steps_before s σ) e in omega (arith, f)
within_frame s σ j (suc k) l =
    let e : 272 * j + suc k ≡ 272 * j + k + 1 = omega arith in
    let there = ap (steps_before s σ) e in
    let one = steps_of_one_more s σ (272 * j + k) in
    let rest = within_frame s σ j k (omega (arith, l)) in
    let frame : (272 * j + k) / 272 ≡ j = omega (arith, l) in
    let same : steps_of s σ (272 * j + k) ≡ need (settings_in s j) σ = ap (λ (z : ℕ). need (settings_in s z) σ) frame in
    let next : suc k * need (settings_in s j) σ ≡ k * need (settings_in s j) σ + need (settings_in s j) σ = omega arith in
    omega (arith, there, one, rest, same, next)

pub spans_have_whole_words : SuperFramesHaveWholeWords → SpansHaveWholeWords
spans_have_whole_words whole s σ zero = let a = no_words s σ in let b = no_steps s σ in omega (arith, a, b)
spans_have_whole_words whole s σ (suc n) =
    let rest = spans_have_whole_words whole s σ n in
    let e : suc n ≡ n + 1 = omega arith in
    let words = ap (words_before s σ) e ∙ words_of_one_more s σ n in
    let f : 272 * suc n ≡ 272 * n + 272 = omega arith in
    let steps = ap (steps_before s σ) f ∙ within_frame s σ n 272 (omega arith) in
    let one = whole (settings_in s n) σ in
    omega (arith, rest, words, steps, one)

-- ---- steps and their symbols
pub steps_have_symbols : StepsHaveSymbols
steps_have_symbols s σ zero t l = let none = no_steps s σ in absurd (omega (arith, l, none))
steps_have_symbols s σ (suc n) t l = go (cases_lt t (steps_before s σ n)) (steps_have_symbols s σ n t)
  where
    e : suc n ≡ n + 1
    e = omega arith

    go : (t < steps_before s σ n) ⊎ (steps_before s σ n ≤ t) → (t < steps_before s σ n → (m : ℕ) × (m < n) × IsStepOf s σ m t) → (m : ℕ) × (m < suc n) × IsStepOf s σ m t
    go (inl below) h = let r = h below in (r.0, omega (arith, r.1), r.2)
    go (inr from) h = (n, omega arith, record { from = from; to = subst (λ (z : ℕ). t < steps_before s σ z) e l })

pub one_symbol : OneSymbol
one_symbol s σ m n t a b = go (cases_lt m n) (cases_lt n m)
  where
    none : (u v x y : ℕ) → u ≤ v → x < u → v ≤ x → y < y
    none u v x y p q r = absurd (omega (arith, p, q, r))

    go : (m < n) ⊎ (n ≤ m) → (n < m) ⊎ (m ≤ n) → m ≡ n
    go (inl l) k = let up = steps_grow s σ (m + 1) n (omega (arith, l)) in absurd (omega (arith, none (steps_before s σ (m + 1)) (steps_before s σ n) t 0 up a.to b.from))
    go (inr l) (inl k) = let up = steps_grow s σ (n + 1) m (omega (arith, k)) in absurd (omega (arith, none (steps_before s σ (n + 1)) (steps_before s σ m) t 0 up b.to a.from))
    go (inr l) (inr k) = omega (arith, l, k)
