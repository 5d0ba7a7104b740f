-- The number of super-frames is found.
use Rattle.std.proofs.Common.{◌≡◌, ℕ, zero, suc, ◌+◌, ◌-◌, ◌*◌, ◌<◌, ◌≤◌, ◌⊎◌, inl, inr, List, [], ◌∷◌, length, map, refl, sym, ap, ◌∙◌, subst, arith, Bool, true, false, cond, not, ◌&&◌, ◌||◌, leb}
use Rattle.std.specs.Prelude.{max, get_or, reverse, IsTrue, nat_lt, nat_le, Option, Some, None, find, unwrap_or}
use Rattle.std.proofs.Math.Nat.{le-max_left, le-max_right}
use Rattle.std.proofs.lemmas.Bool.{cases_lt, cases_Bool, and_parts, leb-true, le-leb, ltb-true, true≢false}
use Rattle.std.specs.List.{range_with_len}
use Rattle.std.proofs.lemmas.List.FromFn.{length-range_with_len, get_or-range_with_len}
use Rattle.std.proofs.lemmas.List.Sums.{passes_at_first, fails_before_first, prefix_len-le-length}
use Rattle.spec_words.specs.Words.{numbers, first_below}
use Rattle.mode_set.specs.Entries.{entry, top, with_entry}
use Rattle.mode_set.specs.Plans.{entries_of}
use Rattle.mode_set.specs.StreamTable.{words_per_super_frame}
use Rattle.mode_set.specs.declared.entry.Entry.{Entry}
use Rattle.mode_set.specs.declared.modes.Stream.{Stream}
use Rattle.mode_set.specs.declared.modes.Stream.TheVariants.{Hp, Lp}
use Rattle.mode_set.specs.declared.settings.Settings.{Settings}
use Rattle.symbol_parameters.specs.Spans.{exists_in, settings_in, words_before}
use Rattle.symbol_parameters.specs.Laws.{WordsOfOneMore}
use Rattle.transmission.specs.SuperFrames.{Suffices, IsLength, carries, is_enough, last_change, most_frames, found_below, super_frames}
use Rattle.transmission.specs.Laws.{TheNumberIsFound}

-- ---- the first number below n that passes
first_passes : (n : ℕ) (test : ℕ → Bool) → first_below n test < n → test (first_below n test) ≡ true
unfolding numbers
first_passes n test l =
    let size : length (range_with_len 0 n) ≡ n = length-range_with_len 0 n in
    let here : get_or (range_with_len 0 n) (first_below n test) 0 ≡ first_below n test = get_or-range_with_len 0 n (first_below n test) 0 l ∙ (omega arith) in
    ap test (sym here) ∙ passes_at_first test (range_with_len 0 n) 0 (omega (arith, size, l))

below_first : (n : ℕ) (test : ℕ → Bool) (k : ℕ) → k < first_below n test → test k ≡ false
unfolding numbers
below_first n test k l =
    let size : length (range_with_len 0 n) ≡ n = length-range_with_len 0 n in
    let most : first_below n test ≤ length (range_with_len 0 n) = prefix_len-le-length _ (range_with_len 0 n) in
    let here : get_or (range_with_len 0 n) k 0 ≡ k = get_or-range_with_len 0 n k 0 (omega (arith, l, most, size)) ∙ (omega arith) in
    ap test (sym here) ∙ fails_before_first test (range_with_len 0 n) k 0 l

found_is : (most n : ℕ) → n < most → found_below most n ≡ Some n
found_is most n l = ap (λ (b : Bool). cond b (Some n) None) (le-leb (suc n) most (omega (arith, l)))

not_found_is : (most n : ℕ) → most ≤ n → found_below most n ≡ None
not_found_is most n l = case_of (cases_Bool (nat_lt n most))
  where
    case_of : (nat_lt n most ≡ true) ⊎ (nat_lt n most ≡ false) → found_below most n ≡ None
    case_of (inr e) = ap (λ (b : Bool). cond b (Some n) None) e
    case_of (inl e) = absurd (let less = ltb-true n most e in omega (arith, l, less))

-- ---- after the last change the settings stay
passed : (e : Entry) (k : ℕ) → nat_le e.after (e.after + k) ≡ true
passed e k = le-leb e.after (e.after + k) (omega arith)

last_in : (xs : List Entry) (d : Entry) (k : ℕ) → unwrap_or (find (λ e. nat_le e.after (get_or (map (λ e. e.after) xs) 0 0 + k)) xs) d ≡ get_or xs 0 d
last_in [] d k = refl
last_in (e ∷ es) d k = rw (passed e k) refl

stays : (s : Settings) (k : ℕ) → entry s (last_change s + k) ≡ get_or (reverse (entries_of s.plan)) 0 (top s)
stays s k = last_in (reverse (entries_of s.plan)) (top s) k

-- the words of a super-frame after it
abbrev last_words : Settings → Stream → ℕ
last_words s σ = words_per_super_frame (settings_in s (last_change s)) σ

with_words : Settings → Stream → Entry → ℕ
with_words s σ e = words_per_super_frame (with_entry s e) σ

later_words : (s : Settings) (σ : Stream) (k : ℕ) → words_per_super_frame (settings_in s (last_change s + k)) σ ≡ last_words s σ
unfolding with_words settings_in
later_words s σ k =
    let none : last_change s + 0 ≡ last_change s = omega arith in
    let here : entry s (last_change s) ≡ get_or (reverse (entries_of s.plan)) 0 (top s) = ap (entry s) (sym none) ∙ stays s 0 in
    ap (with_words s σ) (stays s k ∙ sym here)

-- the words of k super-frames more
words_later : WordsOfOneMore → (s : Settings) (σ : Stream) (k : ℕ) → words_before s σ (last_change s + k) ≡ words_before s σ (last_change s) + k * last_words s σ
words_later more s σ zero = let none : last_change s + 0 ≡ last_change s = omega arith in let e = ap (words_before s σ) none in omega (arith, e)
words_later more s σ (suc k) =
    let next : last_change s + suc k ≡ last_change s + k + 1 = omega arith in
    let e = ap (words_before s σ) next ∙ more s σ (last_change s + k) in
    let one = later_words s σ k in
    let rest = words_later more s σ k in
    let product : suc k * last_words s σ ≡ k * last_words s σ + last_words s σ = omega arith in
    omega (arith, e, one, rest, product)

-- ---- what suffices at all suffices early words that come at a steady rate, or do not come: so many super-frames
-- give so many words, or no number does
enough_soon : (base rate k count most : ℕ) → count ≤ base + k * rate → count ≤ most → count ≤ base + most * rate
enough_soon base zero k count most l m = omega (arith, l)
enough_soon base (suc rate) k count most l m =
    let more : most * suc rate ≡ most + most * rate = omega arith in
    omega (arith, more, m)

early : WordsOfOneMore → (s : Settings) (σ : Stream) (count n most : ℕ) → last_change s ≤ n → count ≤ words_before s σ n → count ≤ most → count ≤ words_before s σ (last_change s + most)
early more s σ count n most l enough few =
    let place : last_change s + (n - last_change s) ≡ n = omega (arith, l) in
    let there = ap (words_before s σ) place in
    let here = words_later more s σ (n - last_change s) in
    let later = words_later more s σ most in
    let soon = enough_soon (words_before s σ (last_change s)) (last_words s σ) (n - last_change s) count most (omega (arith, enough, there, here)) few in
    omega (arith, later, soon)

-- ---- the test
carries_if : (s : Settings) (counts : Stream → ℕ) (n : ℕ) (σ : Stream) → (IsTrue (exists_in s σ) → counts σ + 11 ≤ words_before s σ n) → carries s counts n σ ≡ true
carries_if s counts n σ h = go (cases_Bool (exists_in s σ))
  where
    go : (exists_in s σ ≡ true) ⊎ (exists_in s σ ≡ false) → carries s counts n σ ≡ true
    go (inl e) = ap (λ (b : Bool). not b || nat_le (counts σ + 11) (words_before s σ n)) e ∙ le-leb _ _ (h e)
    go (inr e) = ap (λ (b : Bool). not b || nat_le (counts σ + 11) (words_before s σ n)) e

if_carries : (s : Settings) (counts : Stream → ℕ) (n : ℕ) (σ : Stream) → carries s counts n σ ≡ true → IsTrue (exists_in s σ) → counts σ + 11 ≤ words_before s σ n
if_carries s counts n σ h e = leb-true _ _ (sym (ap (λ (b : Bool). not b || nat_le (counts σ + 11) (words_before s σ n)) e) ∙ h)

suffices_if : (s : Settings) (counts : Stream → ℕ) (n : ℕ) → is_enough s counts n ≡ true → (1 ≤ n) × Suffices s counts n
suffices_if s counts n h = (leb-true 1 n a.0, each)
  where
    a : (leb 1 n ≡ true) × ((carries s counts n Hp && carries s counts n Lp) ≡ true)
    a = and_parts _ _ h

    b : (carries s counts n Hp ≡ true) × (carries s counts n Lp ≡ true)
    b = and_parts _ _ a.1

    each : Suffices s counts n
    each Hp = if_carries s counts n Hp b.0
    each Lp = if_carries s counts n Lp b.1

if_suffices : (s : Settings) (counts : Stream → ℕ) (n : ℕ) → 1 ≤ n → Suffices s counts n → is_enough s counts n ≡ true
if_suffices s counts n some each = rw (le-leb 1 n some, carries_if s counts n Hp (each Hp), carries_if s counts n Lp (each Lp)) refl

-- the search need not go far for a number that suffices
soon : WordsOfOneMore → (s : Settings) (counts : Stream → ℕ) (n : ℕ) → 1 ≤ n → Suffices s counts n → (k : ℕ) × (k < most_frames s counts) × (is_enough s counts k ≡ true)
soon more s counts n some each = go (cases_lt n (most_frames s counts))
  where
    most : ℕ
    most = max (counts Hp) (counts Lp) + 11

    late : ℕ
    late = last_change s + most

    each_early : last_change s ≤ n → Suffices s counts late
    each_early l Hp e = early more s Hp (counts Hp + 11) n most l (each Hp e) (let m = le-max_left (counts Hp) (counts Lp) in omega (arith, m))
    each_early l Lp e = early more s Lp (counts Lp + 11) n most l (each Lp e) (let m = le-max_right (counts Hp) (counts Lp) in omega (arith, m))

    go : (n < most_frames s counts) ⊎ (most_frames s counts ≤ n) → (k : ℕ) × (k < most_frames s counts) × (is_enough s counts k ≡ true)
    go (inl l) = (n, l, if_suffices s counts n some each)
    go (inr l) = (late, omega arith, if_suffices s counts late (omega arith) (each_early (omega (arith, l))))

-- ---- the search
pub the_number_is_found : WordsOfOneMore → TheNumberIsFound
unfolding super_frames
the_number_is_found more s counts = go (cases_lt r (most_frames s counts))
  where
    r : ℕ
    r = first_below (most_frames s counts) (is_enough s counts)

    not_below : (k : ℕ) → k < r → is_enough s counts k ≡ false
    not_below k l = below_first (most_frames s counts) (is_enough s counts) k l

    least : (k : ℕ) → 1 ≤ k → Suffices s counts k → r ≤ k
    least k some each = case_of (cases_lt k r)
      where
        case_of : (k < r) ⊎ (r ≤ k) → r ≤ k
        case_of (inl l) = absurd (true≢false (sym (if_suffices s counts k some each) ∙ not_below k l))
        case_of (inr l) = l

    go : (r < most_frames s counts) ⊎ (most_frames s counts ≤ r) → IsLength s counts (found_below (most_frames s counts) r)
    go (inl l) =
        let p = suffices_if s counts r (first_passes (most_frames s counts) (is_enough s counts) l) in
        subst (λ (o : Option ℕ). IsLength s counts o) (sym (found_is (most_frames s counts) r l)) (record { some = p.0; suffices = p.1; least = least })
    go (inr l) = subst (λ (o : Option ℕ). IsLength s counts o) (sym (not_found_is (most_frames s counts) r l))
        (λ n some each. let k = soon more s counts n some each in absurd (true≢false (sym k.2 ∙ not_below k.0 (omega (arith, l, k.1)))))
