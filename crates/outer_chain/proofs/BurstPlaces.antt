-- A burst touches a word in at most eight places.
use Rattle.std.proofs.Common.{◌≡◌, ◌≢◌, ℕ, zero, suc, ◌+◌, ◌-◌, ◌*◌, ◌/◌, ◌%◌, ◌<◌, ◌≤◌, ◌⊎◌, inl, inr, Bool, true, false, cond, eqb, ◌||◌, not, List, [], ◌∷◌, ◌++◌, length, get_or, refl, sym, ◌∙◌, ap, ap₂, arith, true≢false}
use Rattle.std.proofs.lemmas.Bool.{cases_lt, eqb-true, eqb-false, not-true}
use Rattle.rs204.specs.Codes.{distance}
use Rattle.forney.specs.Values.{values}
use Rattle.forney.specs.Values.{stream_of}
use Rattle.forney.specs.Interleaving.{deinterleaved}
use Rattle.forney.proofs.ValueLists.{length-values, values_push}
use Rattle.forney.proofs.DelayLines.{above}
use Rattle.outer_chain.specs.Words.{count, word_at, word_count}
use Rattle.outer_chain.specs.Bursts.{Run, AreRuns, InRuns, Bursts}

-- ---- counting

pub count_below : (f g : ℕ → Bool) (n : ℕ) → ((t : ℕ) → t < n → f t ≡ true → g t ≡ true) → count f n ≤ count g n
unfolding count
count_below f g zero h = omega arith
count_below f g (suc n) h = go (f n) (g n) (h n (omega arith)) (count_below f g n (λ t l. h t (omega arith)))
  where
    go : (a b : Bool) → (a ≡ true → b ≡ true) → count f n ≤ count g n → cond a 1 0 + count f n ≤ cond b 1 0 + count g n
    go false false i r = omega arith
    go false true i r = omega arith
    go true true i r = omega arith
    go true false i r = absurd (true≢false (sym (i refl)))

pub count_or : (f g : ℕ → Bool) (n : ℕ) → count (λ t. f t || g t) n ≤ count f n + count g n
unfolding count
count_or f g zero = omega arith
count_or f g (suc n) = go (f n) (g n) (count_or f g n)
  where
    go : (a b : Bool) → count (λ t. f t || g t) n ≤ count f n + count g n → cond (a || b) 1 0 + count (λ t. f t || g t) n ≤ cond a 1 0 + count f n + (cond b 1 0 + count g n)
    go false false r = omega arith
    go false true r = omega arith
    go true true r = omega arith
    go true false r = omega arith

count_none : (c n : ℕ) → n ≤ c → count (λ t. eqb t c) n ≡ 0
unfolding count
count_none c zero l = refl
count_none c (suc n) l = go (eqb n c) refl (count_none c n (omega arith))
  where
    go : (b : Bool) → eqb n c ≡ b → count (λ t. eqb t c) n ≡ 0 → cond b 1 0 + count (λ t. eqb t c) n ≡ 0
    go true e r = absurd (omega (arith, eqb-true n c e))
    go false e r = omega arith

count_one : (c n : ℕ) → count (λ t. eqb t c) n ≤ 1
unfolding count
count_one c zero = omega arith
count_one c (suc n) = go (eqb n c) refl (count_one c n)
  where
    go : (b : Bool) → eqb n c ≡ b → count (λ t. eqb t c) n ≤ 1 → cond b 1 0 + count (λ t. eqb t c) n ≤ 1
    go true e r = let z : count (λ t. eqb t c) n ≡ 0 = count_none c n (omega (arith, eqb-true n c e)) in omega arith
    go false e r = omega arith

-- the place in a word of the byte that comes u-th on the line
abbrev at : ℕ → ℕ
at u = 12 * (u % 17) + u / 17

abbrev among : ℕ → ℕ → ℕ → Bool
among c zero t = false
among c (suc k) t = eqb t (at (c + k)) || among c k t

count_among : (c k n : ℕ) → count (among c k) n ≤ k
unfolding count
count_among c zero zero = omega arith
count_among c zero (suc n) = omega (arith, count_among c zero n)
count_among c (suc k) n = omega (arith, count_or (λ t. eqb t (at (c + k))) (among c k) n, count_one (at (c + k)) n, count_among c k n)

is_among : (c k t j : ℕ) → j < k → t ≡ at (c + j) → among c k t ≡ true
is_among c zero t j l e = absurd (omega arith)
is_among c (suc k) t j l e = go (eqb t (at (c + k))) refl (λ m. is_among c k t j m e)
  where
    before : eqb t (at (c + k)) ≡ false → (j < k) ⊎ (k ≤ j) → j < k
    before h (inl m) = m
    before h (inr m) = let s : j ≡ k = omega arith in absurd (eqb-false _ _ h (e ∙ ap (λ i. at (c + i)) s))

    go : (b : Bool) → eqb t (at (c + k)) ≡ b → (j < k → among c k t ≡ true) → (b || among c k t) ≡ true
    go true h f = refl
    go false h f = f (before h (cases_lt j k))

-- how many places of a word differ
pub dist_push : (v w : List ℕ) (a b : ℕ) → length v ≡ length w → distance (v ++ a ∷ []) (w ++ b ∷ []) ≡ cond (eqb a b) 0 1 + distance v w
dist_push [] [] a b l = refl
dist_push [] (y ∷ w) a b l = absurd (omega arith)
dist_push (x ∷ v) [] a b l = absurd (omega arith)
dist_push (x ∷ v) (y ∷ w) a b l = omega (arith, dist_push v w a b (omega arith))

pub dist_count : (f g : ℕ → ℕ) (i n : ℕ) → distance (values f i n) (values g i n) ≡ count (λ t. not (eqb (f (i + t)) (g (i + t)))) n
unfolding count values
dist_count f g i zero = refl
dist_count f g i (suc n) =
    let e : suc n ≡ n + 1 = omega arith in
    let same : length (values f i n) ≡ length (values g i n) = length-values f i n ∙ sym (length-values g i n) in
    ap₂ distance (ap (values f i) e ∙ values_push f i n) (ap (values g i) e ∙ values_push g i n)
    ∙ dist_push (values f i n) (values g i n) (f (i + n)) (g (i + n)) same
    ∙ go (eqb (f (i + n)) (g (i + n))) (dist_count f g i n)
  where
    go : (b : Bool) → distance (values f i n) (values g i n) ≡ count (λ t. not (eqb (f (i + t)) (g (i + t)))) n
        → cond b 0 1 + distance (values f i n) (values g i n) ≡ cond (not b) 1 0 + count (λ t. not (eqb (f (i + t)) (g (i + t)))) n
    go true r = omega arith
    go false r = omega arith

-- ---- runs

runs_after : (p place : ℕ) (rs : List Run) → AreRuns place rs → InRuns p rs → place ≤ p
runs_after p place [] a i = absurd i
runs_after p place (r ∷ rs) a (inl h) = omega (arith, a.0, h.0)
runs_after p place (r ∷ rs) a (inr h) = omega (arith, a.0, runs_after p (r.first + r.long + 2448) rs a.2 h)

-- of the places of a word, those in runs are within 96
abbrev Within : ℕ → ℕ → List Run → Type 0
Within base s rs = (p : ℕ) → base ≤ p → p < base + 2448 → InRuns p rs → (s ≤ p) × (p < s + 96)

window : (base place : ℕ) (rs : List Run) → AreRuns place rs → (s : ℕ) × Within base s rs
window base place [] a = (0, λ p l m i. absurd i)
window base place (r ∷ rs) a = go (cases_lt base (r.first + r.long)) (window base (r.first + r.long + 2448) rs a.2)
  where
    go : (base < r.first + r.long) ⊎ (r.first + r.long ≤ base) → ((s : ℕ) × Within base s rs) → (s : ℕ) × Within base s (r ∷ rs)
    go (inl lt) w = (r.first, λ p l m i. here p m i)
      where
        here : (p : ℕ) → p < base + 2448 → ((r.first ≤ p) × (p < r.first + r.long)) ⊎ InRuns p rs → (r.first ≤ p) × (p < r.first + 96)
        here p m (inl h) = (h.0, omega (arith, h.1, a.1))
        here p m (inr h) = absurd (omega (arith, runs_after p (r.first + r.long + 2448) rs a.2 h))
    go (inr ge) w = (w.0, λ p l m i. later p l m i)
      where
        later : (p : ℕ) → base ≤ p → p < base + 2448 → ((r.first ≤ p) × (p < r.first + r.long)) ⊎ InRuns p rs → (w.0 ≤ p) × (p < w.0 + 96)
        later p l m (inl h) = absurd (omega (arith, h.1))
        later p l m (inr h) = w.1 p l m h

-- ---- a word

-- where the byte at a place of a word comes from
pub source : (bytes : List ℕ) (k t : ℕ) → t < 204 → deinterleaved (stream_of bytes) (204 * (k + 11) + t) ≡ get_or bytes (204 * k + (t + 204 * (t % 12))) 0
source bytes k t l =
    above bytes (204 * (k + 11) + t) (204 * (11 - (204 * (k + 11) + t) % 12)) (omega arith)
    ∙ ap (λ i. get_or bytes i 0) (omega arith)

touched : (s t : ℕ) → t < 204 → s ≤ t + 204 * (t % 12) → t + 204 * (t % 12) < s + 96 → among ((17 * s + 204) / 205) 8 t ≡ true
touched s t l a b =
    let c = (17 * s + 204) / 205 in
    let u = 17 * (t % 12) + t / 12 in
    let lo : c ≤ u = omega arith in
    let hi : u < c + 8 = omega arith in
    is_among c 8 t (u - c) (omega arith) (let e : c + (u - c) ≡ u = omega arith in let f : t ≡ at u = omega arith in f ∙ ap at (sym e))

pub eight_places : (sent received : List ℕ) (k : ℕ) → Bursts sent received → k < word_count sent → distance (word_at received k) (word_at sent k) ≤ 8
unfolding word_at
eight_places sent received k b l =
    let w = window (204 * k) 0 b.runs b.apart in
    let s = w.0 - 204 * k in
    let f = λ (t : ℕ). not (eqb (deinterleaved (stream_of received) (204 * (k + 11) + t)) (deinterleaved (stream_of sent) (204 * (k + 11) + t))) in
    let only : (t : ℕ) → t < 204 → f t ≡ true → among ((17 * s + 204) / 205) 8 t ≡ true = λ t m e.
    let differ : get_or received (204 * k + (t + 204 * (t % 12))) 0 ≢ get_or sent (204 * k + (t + 204 * (t % 12))) 0 =
    λ h. eqb-false _ _ (not-true _ e) (source received k t m ∙ h ∙ sym (source sent k t m)) in
    let within = w.1 (204 * k + (t + 204 * (t % 12))) (omega arith) (omega arith) (b.only (204 * k + (t + 204 * (t % 12))) (omega arith) differ) in
    touched s t m (omega (arith, within.0)) (omega (arith, within.1)) in
    omega (
      arith,
      dist_count (deinterleaved (stream_of received)) (deinterleaved (stream_of sent)) (204 * (k + 11)) 204,
      count_below f (among ((17 * s + 204) / 205) 8) 204 only,
      count_among ((17 * s + 204) / 205) 8 204,
    )
