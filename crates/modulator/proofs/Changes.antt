-- Between two changes all super-frames are alike.
use Rattle.std.proofs.Common.{◌≡◌, ℕ, zero, suc, ◌+◌, ◌-◌, ◌*◌, ◌<◌, ◌≤◌, ◌⊎◌, inl, inr, Bool, true, false, cond, List, [], ◌∷◌, length, get_or, refl, sym, ap, ◌∙◌, subst, arith, IsTrue}
use Rattle.std.specs.Prelude.{nat_lt, nat_le, find, reverse, unwrap_or, Option, Some}
use Rattle.std.specs.List.{list_all}
use Rattle.std.proofs.lemmas.Bool.{and_parts, cases_lt, le-leb, ltb-true, cases_Bool, leb-true}
use Rattle.std.proofs.lemmas.List.{get_or-reverse, length-reverse}
use Rattle.spec_words.specs.Words.{rounded_up}
use Rattle.mode_set.specs.Entries.{entry, top, with_entry}
use Rattle.mode_set.specs.PlanList.{filler, is_rising}
use Rattle.mode_set.specs.Plans.{entries_of}
use Rattle.mode_set.specs.StreamTable.{words_per_super_frame}
use Rattle.mode_set.specs.declared.entry.Entry.{Entry}
use Rattle.mode_set.specs.declared.modes.Stream.{Stream}
use Rattle.mode_set.specs.declared.settings.Settings.{Settings}
use Rattle.symbol_parameters.specs.Spans.{words_in, words_before}
use Rattle.symbol_parameters.specs.Laws.{ParametersChange, WordsGrow, WordsOfOneMore}
use Rattle.transmission.proofs.Rounding.{enough, least}
use Rattle.modulator.specs.Carrying.{AreLeastFor}

-- ---- lists whose numbers rise the first i entries of a list have begun by a super-frame, the others begin after it
pub record IsBetween (l : List Entry) (i start : ℕ) : Type 0 where
  pub begun : (k : ℕ) → k < i → (get_or l k filler).after ≤ start
  pub later : (k : ℕ) → i ≤ k → k < length l → start < (get_or l k filler).after

all_at : (p : Entry → Bool) (l : List Entry) (k : ℕ) → IsTrue (list_all p l) → k < length l → p (get_or l k filler) ≡ true
all_at p [] k h l = absurd (omega (arith, l))
all_at p (e ∷ es) zero h l = (and_parts _ _ h).0
all_at p (e ∷ es) (suc k) h l = all_at p es k (and_parts _ _ h).1 (omega (arith, l))

some_number : (l : List Entry) (k : ℕ) → IsTrue (is_rising l) → k < length l → 0 < (get_or l k filler).after
some_number [] k h l = absurd (omega (arith, l))
some_number (e ∷ es) zero h l = ltb-true 0 e.after (and_parts _ _ (and_parts _ _ h).0).0
some_number (e ∷ es) (suc k) h l = some_number es k (and_parts _ _ h).1 (omega (arith, l))

numbers_rise : (l : List Entry) (i k : ℕ) → IsTrue (is_rising l) → i < k → k < length l → (get_or l i filler).after < (get_or l k filler).after
numbers_rise [] i k h less l = absurd (omega (arith, l))
numbers_rise (e ∷ es) i zero h less l = absurd (omega (arith, less))
numbers_rise (e ∷ es) zero (suc k) h less l = ltb-true e.after _ (all_at (λ f. nat_lt e.after f.after) es k (and_parts _ _ (and_parts _ _ h).0).1 (omega (arith, l)))
numbers_rise (e ∷ es) (suc i) (suc k) h less l = numbers_rise es i k (and_parts _ _ h).1 (omega (arith, less)) (omega (arith, l))

pub before_all : (l : List Entry) → IsTrue (is_rising l) → IsBetween l 0 0
before_all l h = record { begun = λ k less. absurd (omega (arith, less)); later = λ k from less. some_number l k h less }

pub next_between : (l : List Entry) (i start : ℕ) → IsTrue (is_rising l) → i < length l → IsBetween l i start → IsBetween l (i + 1) (get_or l i filler).after
next_between l i start h less is = record { begun = begun; later = λ k from below. numbers_rise l i k h (omega (arith, from)) below }
  where
    begun : (k : ℕ) → k < i + 1 → (get_or l k filler).after ≤ (get_or l i filler).after
    begun k few = go (cases_lt k i)
      where
        go : (k < i) ⊎ (i ≤ k) → (get_or l k filler).after ≤ (get_or l i filler).after
        go (inl m) = let up = numbers_rise l k i h m less in omega (arith, up)
        go (inr m) = let e : k ≡ i = omega (arith, m, few) in subst (λ (z : ℕ). (get_or l z filler).after ≤ (get_or l i filler).after) (sym e) (omega arith)

-- ---- entries that stay
same_found : (p q : Entry → Bool) (l : List Entry) → ((k : ℕ) → k < length l → p (get_or l k filler) ≡ q (get_or l k filler)) → find p l ≡ find q l
same_found p q [] same = refl
same_found p q (e ∷ es) same =
    ap (λ (b : Bool). cond b (Some e) (find p es)) (same 0 (omega arith)) ∙ ap (λ (o : Option Entry). cond (q e) (Some e) o) (same_found p q es (λ k l. same (suc k) (omega (arith, l))))

same_entry : (s : Settings) (a b : ℕ) → ((k : ℕ) → k < length (entries_of s.plan) → nat_le (get_or (entries_of s.plan) k filler).after a ≡ nat_le (get_or (entries_of s.plan) k filler).after b) → entry s a ≡ entry s b
same_entry s a b same = ap (λ (o : Option Entry). unwrap_or o (top s)) (same_found (λ e. nat_le e.after a) (λ e. nat_le e.after b) (reverse l) reversed)
  where
    l : List Entry
    l = entries_of s.plan

    reversed : (k : ℕ) → k < length (reverse l) → nat_le (get_or (reverse l) k filler).after a ≡ nat_le (get_or (reverse l) k filler).after b
    reversed k less =
        let size = length-reverse l in
        let there = get_or-reverse l k filler (omega (arith, less, size)) in
        ap (λ (e : Entry). nat_le e.after a) there ∙ same (length l - 1 - k) (omega (arith, less, size)) ∙ sym (ap (λ (e : Entry). nat_le e.after b) there)

not_yet : (n a : ℕ) → a < n → nat_le n a ≡ false
not_yet n a l = go (cases_Bool (nat_le n a))
  where
    go : (nat_le n a ≡ true) ⊎ (nat_le n a ≡ false) → nat_le n a ≡ false
    go (inl e) = absurd (let m = leb-true n a e in omega (arith, m, l))
    go (inr e) = e

-- from one change to the next the parameters are those of its first super-frame
pub stays_between : (s : Settings) (i start j : ℕ) → IsBetween (entries_of s.plan) i start → start ≤ j → ((k : ℕ) → i ≤ k → k < length (entries_of s.plan) → j < (get_or (entries_of s.plan) k filler).after)
    → entry s j ≡ entry s start
stays_between s i start j is from before = same_entry s j start each
  where
    each : (k : ℕ) → k < length (entries_of s.plan) → nat_le (get_or (entries_of s.plan) k filler).after j ≡ nat_le (get_or (entries_of s.plan) k filler).after start
    each k less = go (cases_lt k i)
      where
        go : (k < i) ⊎ (i ≤ k) → nat_le (get_or (entries_of s.plan) k filler).after j ≡ nat_le (get_or (entries_of s.plan) k filler).after start
        go (inl m) = let b = is.begun k m in le-leb _ j (omega (arith, b, from)) ∙ sym (le-leb _ start b)
        go (inr m) = not_yet _ j (before k m less) ∙ sym (not_yet _ start (is.later k m less))

-- ---- words between changes the super-frames from `start` on, `span` of them, have as many words each
abbrev pub AreAlike : Settings → Stream → ℕ → ℕ → ℕ → Type 0
AreAlike s σ start words span = (j : ℕ) → j < span → words_in s σ (start + j) ≡ words

pub words_up_to : WordsOfOneMore → (s : Settings) (σ : Stream) (start words span k : ℕ) → AreAlike s σ start words span → k ≤ span → words_before s σ (start + k) ≡ words_before s σ start + k * words
words_up_to more s σ start words span zero alike l = let e : start + 0 ≡ start = omega arith in let f = ap (words_before s σ) e in omega (arith, f)
words_up_to more s σ start words span (suc k) alike l =
    let e : start + suc k ≡ start + k + 1 = omega arith in
    let next = ap (words_before s σ) e ∙ more s σ (start + k) in
    let one = alike k (omega (arith, l)) in
    let rest = words_up_to more s σ start words span k alike (omega (arith, l)) in
    let product : suc k * words ≡ k * words + words = omega arith in
    omega (arith, next, one, rest, product)

-- the words that a call returns are those of each of these super-frames
pub alike_between : ParametersChange → (s : Settings) (σ : Stream) (i start span words : ℕ) → IsBetween (entries_of s.plan) i start
    → ((k : ℕ) → i ≤ k → k < length (entries_of s.plan) → start + span ≤ (get_or (entries_of s.plan) k filler).after)
    → words ≡ words_per_super_frame (with_entry s (entry s start)) σ → AreAlike s σ start words span
alike_between change s σ i start span words is before are j l =
    let same : entry s (start + j) ≡ entry s start = stays_between s i start (start + j) is (omega arith) (λ k m less. let b = before k m less in omega (arith, b, l)) in
    ap (λ (z : Settings). words_per_super_frame z σ) (change s (start + j)) ∙ ap (λ (e : Entry). words_per_super_frame (with_entry s e) σ) same ∙ sym are

-- ---- the least number
enough_words : (a b w : ℕ) → 0 < b → w ≡ rounded_up a b → a ≤ w * b
enough_words a b w some e = subst (λ (z : ℕ). a ≤ z * b) (sym e) (enough a b some)

pub few_words : (a b w k : ℕ) → 0 < b → w ≡ rounded_up a b → k < w → k * b < a
few_words a b w k some e l = go (cases_lt (k * b) a)
  where
    go : (k * b < a) ⊎ (a ≤ k * b) → k * b < a
    go (inl m) = m
    go (inr m) = absurd (let up = least a b k some m in omega (arith, up, e, l))

module _ (grow : WordsGrow) (more : WordsOfOneMore) (s : Settings) (σ : Stream) (start words wanted : ℕ) where
  pub found_least : (span n : ℕ) → words_before s σ start < wanted → AreAlike s σ start words span → 0 < words → n ≡ rounded_up (wanted - words_before s σ start) words → n ≤ span → AreLeastFor s σ wanted (start + n)
  found_least span n few alike some is within = record { enough = all_carried; least = no_fewer }
    where
      all_carried : wanted ≤ words_before s σ (start + n)
      all_carried =
          let here = words_up_to more s σ start words span n alike within in
          let all = enough_words (wanted - words_before s σ start) words n some is in
          omega (arith, here, all, few)

      below : (j : ℕ) → j < n → words_before s σ (start + j) < wanted
      below j l =
          let here = words_up_to more s σ start words span j alike (omega (arith, l, within)) in
          let not_all = few_words (wanted - words_before s σ start) words n j some is l in
          omega (arith, here, not_all, few)

      no_fewer : (k : ℕ) → wanted ≤ words_before s σ k → start + n ≤ k
      no_fewer k h = go (cases_lt k (start + n))
        where
          early : (k : ℕ) → k ≤ start → wanted ≤ words_before s σ k → start + n ≤ k
          early k l h = let up = grow s σ k start l in absurd (omega (arith, up, h, few))

          late : (j : ℕ) → start + j ≡ k → j < n → start + n ≤ k
          late j e l = let b = below j l in absurd (let f = ap (words_before s σ) e in omega (arith, b, f, h))

          go : (k < start + n) ⊎ (start + n ≤ k) → start + n ≤ k
          go (inr l) = l
          go (inl l) = at (cases_lt k start)
            where
              at : (k < start) ⊎ (start ≤ k) → start + n ≤ k
              at (inl m) = early k (omega (arith, m)) h
              at (inr m) = late (k - start) (omega (arith, m)) (omega (arith, m, l))

  -- if super-frames carry no more words, and had too few before, no number suffices
  pub none_least : words_before s σ start < wanted → ((span : ℕ) → AreAlike s σ start words span) → words ≡ 0 → (n : ℕ) → wanted ≤ words_before s σ n → ⊥
  none_least few alike none n h = go (cases_lt n start)
    where
      late : (j : ℕ) → start + j ≡ n → ⊥
      late j e =
          let here = words_up_to more s σ start words j j (alike j) (omega arith) in
          let nothing : j * words ≡ 0 = ap (λ (z : ℕ). j * z) none ∙ omega arith in
          let f = ap (words_before s σ) e in
          omega (arith, here, nothing, f, h, few)

      go : (n < start) ⊎ (start ≤ n) → ⊥
      go (inl m) = let up = grow s σ n start (omega (arith, m)) in omega (arith, up, h, few)
      go (inr m) = late (n - start) (omega (arith, m))

-- ---- the calls of the loop from the last change on all super-frames are alike
pub alike_later : ParametersChange → (s : Settings) (σ : Stream) (i start words : ℕ) → IsBetween (entries_of s.plan) i start → length (entries_of s.plan) ≤ i
    → words ≡ words_per_super_frame (with_entry s (entry s start)) σ → (span : ℕ) → AreAlike s σ start words span
alike_later change s σ i start words is all are span = alike_between change s σ i start span words is (λ k m less. absurd (omega (arith, m, less, all))) are

-- the same up to the next change
pub alike_to_next : ParametersChange → (s : Settings) (σ : Stream) (i start next words : ℕ) → IsTrue (is_rising (entries_of s.plan)) → IsBetween (entries_of s.plan) i start → i < length (entries_of s.plan)
    → next ≡ (get_or (entries_of s.plan) i filler).after → words ≡ words_per_super_frame (with_entry s (entry s start)) σ → (start ≤ next) × AreAlike s σ start words (next - start)
alike_to_next change s σ i start next words rising is less at are =
    let later : start < (get_or (entries_of s.plan) i filler).after = is.later i (omega arith) less in
    (omega (arith, later, at), alike_between change s σ i start (next - start) words is before are)
  where
    place : (n : ℕ) → start < n → next ≡ n → start + (next - start) ≡ n
    place n l e = omega (arith, l, e)

    before : (k : ℕ) → i ≤ k → k < length (entries_of s.plan) → start + (next - start) ≤ (get_or (entries_of s.plan) k filler).after
    before k m few =
        let here = place (get_or (entries_of s.plan) i filler).after (is.later i (omega arith) less) at in
        go (cases_lt i k) here
      where
        go : (i < k) ⊎ (k ≤ i) → start + (next - start) ≡ (get_or (entries_of s.plan) i filler).after → start + (next - start) ≤ (get_or (entries_of s.plan) k filler).after
        go (inl l) here = let up = numbers_rise (entries_of s.plan) i k rising l few in omega (arith, here, up)
        go (inr l) here = let e : k ≡ i = omega (arith, l, m) in subst (λ (z : ℕ). start + (next - start) ≤ (get_or (entries_of s.plan) z filler).after) (sym e) (omega (arith, here))

-- how the loop continues after a change
pub go_on : WordsOfOneMore → (s : Settings) (σ : Stream) (i start next words carried wanted : ℕ) → IsTrue (is_rising (entries_of s.plan)) → IsBetween (entries_of s.plan) i start → i < length (entries_of s.plan)
    → next ≡ (get_or (entries_of s.plan) i filler).after → start ≤ next → AreAlike s σ start words (next - start) → carried ≡ words_before s σ start → carried < wanted → (next - start) * words < wanted - carried
    → (carried + (next - start) * words ≡ words_before s σ (start + (next - start))) × (carried + (next - start) * words < wanted) × IsBetween (entries_of s.plan) (i + 1) (start + (next - start))
go_on more s σ i start next words carried wanted rising is less at from alike are below few =
    let here = words_up_to more s σ start words (next - start) (next - start) alike (omega arith) in
    let place : start + (next - start) ≡ (get_or (entries_of s.plan) i filler).after = omega (arith, from, at) in
    (omega (arith, here, are), omega (arith, below, few), subst (IsBetween (entries_of s.plan) (i + 1)) (sym place) (next_between (entries_of s.plan) i start rising less is))
