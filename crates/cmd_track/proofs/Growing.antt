-- The first corrected symbols of symbols that continue.
use Rattle.std.proofs.Common.{◌≡◌, ℕ, zero, suc, ◌+◌, ◌-◌, ◌<◌, ◌≤◌, List, [], ◌∷◌, ◌++◌, length, get_or, refl, ap, ap₂, sym, ◌∙◌, arith, length-append, append_assoc}
use Rattle.std.specs.Prelude.{flat_map}
use Rattle.std.specs.List.{range_with_len}
use Rattle.std.proofs.lemmas.List.{append-nil}
use Rattle.std.proofs.lemmas.List.Concat.{flat_map-append}
use Rattle.std.proofs.lemmas.List.FromFn.{get_or-map-range_with_len, take-map-range_with_len}
use Rattle.spec_words.specs.Words.{numbers}
use Rattle.spec_words.proofs.Counting.{numbers_end}
use Rattle.mode_set.specs.declared.settings.Settings.{Settings}
use Rattle.tracking.specs.Laws.{LiveSymbolsStay}
use Rattle.tracking.specs.Tracking.{Symbol, tracked_bytes, tracked_symbols, live_symbols}
use Rattle.cmd_track.specs.Working.{symbols_from}

-- more symbols leave a symbol with seven after it
symbol_stays : LiveSymbolsStay → (s : Settings) (first more : List Symbol) (m : ℕ) → m < length first - 7 → tracked_bytes s (first ++ more) m ≡ tracked_bytes s first m
unfolding tracked_symbols live_symbols numbers
symbol_stays law s first more m h =
    let n : ℕ = length first - 7 in
    let long = length-append first more in
    let all : List Symbol = first ++ more in
    sym (get_or-map-range_with_len (tracked_bytes s all) 0 n m m [] h (omega arith))
    ∙ ap (λ (l : List (List ℕ)). get_or l m []) (sym (take-map-range_with_len (tracked_bytes s all) 0 (length all) n (omega (arith, long))) ∙ law s first more)
    ∙ get_or-map-range_with_len (tracked_bytes s first) 0 n m m [] h (omega arith)

-- the first n symbols, corrected
abbrev pub corrected : Settings → List Symbol → ℕ → List ℕ
corrected s all n = flat_map (tracked_bytes s all) (numbers n)

pub none_corrected : (s : Settings) (all : List Symbol) → corrected s all 0 ≡ []
unfolding numbers
none_corrected s all = refl

pub one_corrected : (s : Settings) (all : List Symbol) (n : ℕ) → corrected s all (n + 1) ≡ corrected s all n ++ tracked_bytes s all n
one_corrected s all n =
    let f = tracked_bytes s all in
    ap (flat_map f) (numbers_end n) ∙ flat_map-append f (numbers n) (n ∷ []) ∙ ap (λ (l : List ℕ). flat_map f (numbers n) ++ l) (append-nil (f n))

pub corrected_stay : LiveSymbolsStay → (s : Settings) (first more : List Symbol) (n : ℕ) → n ≤ length first - 7 → corrected s (first ++ more) n ≡ corrected s first n
corrected_stay law s first more zero h = none_corrected s (first ++ more) ∙ sym (none_corrected s first)
corrected_stay law s first more (suc n) h =
    let next : suc n ≡ n + 1 = omega arith in
    ap (corrected s (first ++ more)) next
    ∙ one_corrected s (first ++ more) n
    ∙ ap₂ (λ (l r : List ℕ). l ++ r) (corrected_stay law s first more n (omega (arith, h))) (symbol_stays law s first more n (omega (arith, h)))
    ∙ sym (one_corrected s first n)
    ∙ ap (corrected s first) (sym next)

-- first symbols are a prefix of more symbols
more_corrected : (s : Settings) (all : List Symbol) (n k : ℕ) → (rest : List ℕ) × (corrected s all (n + k) ≡ corrected s all n ++ rest)
more_corrected s all n zero = let none : n + 0 ≡ n = omega arith in ([], ap (corrected s all) none ∙ sym (append-nil (corrected s all n)))
more_corrected s all n (suc k) =
    let next : n + suc k ≡ n + k + 1 = omega arith in
    let b = more_corrected s all n k in (
      b.0 ++ tracked_bytes s all (n + k),
      ap (corrected s all) next ∙ one_corrected s all (n + k) ∙ ap (λ (l : List ℕ). l ++ tracked_bytes s all (n + k)) b.1 ∙ append_assoc (corrected s all n) b.0 (tracked_bytes s all (n + k)),
    )

pub corrected_begin : (s : Settings) (all : List Symbol) (n m : ℕ) → n ≤ m → (rest : List ℕ) × (corrected s all m ≡ corrected s all n ++ rest)
corrected_begin s all n m l = let sum : m ≡ n + (m - n) = omega (arith, l) in let b = more_corrected s all n (m - n) in (b.0, ap (corrected s all) sum ∙ b.1)

-- ---- the symbols from one on

range_splits : (a n k : ℕ) → range_with_len a (n + k) ≡ range_with_len a n ++ range_with_len (a + n) k
range_splits a zero k = ap₂ range_with_len (let e : a ≡ a + 0 = omega arith in e) (let e : 0 + k ≡ k = omega arith in e)
range_splits a (suc n) k =
    let next : suc n + k ≡ suc (n + k) = omega arith in
    let place : a + 1 + n ≡ a + suc n = omega arith in
    ap (range_with_len a) next ∙ ap (λ (l : List ℕ). a ∷ l) (range_splits (a + 1) n k) ∙ ap (λ (z : ℕ). a ∷ (range_with_len (a + 1) n ++ range_with_len z k)) place

-- the first ones and those after them are all
pub corrected_splits : (s : Settings) (all : List Symbol) (n : ℕ) → n ≤ length all → corrected s all (length all) ≡ corrected s all n ++ symbols_from s all n
unfolding symbols_from numbers
corrected_splits s all n l =
    let f = tracked_bytes s all in
    let sum : length all ≡ n + (length all - n) = omega (arith, l) in
    let zero_on : 0 + n ≡ n = omega arith in
    ap (λ (k : ℕ). flat_map f (range_with_len 0 k)) sum
    ∙ ap (flat_map f) (range_splits 0 n (length all - n) ∙ ap (λ (z : ℕ). range_with_len 0 n ++ range_with_len z (length all - n)) zero_on)
    ∙ flat_map-append f (range_with_len 0 n) (range_with_len n (length all - n))

-- the next one, and those after it
pub from_next : (s : Settings) (all : List Symbol) (n : ℕ) → n < length all → symbols_from s all n ≡ tracked_bytes s all n ++ symbols_from s all (n + 1)
unfolding symbols_from
from_next s all n l =
    let f = tracked_bytes s all in
    let sum : length all - n ≡ suc (length all - (n + 1)) = omega (arith, l) in
    ap (λ (k : ℕ). flat_map f (range_with_len n k)) sum

-- none is left
pub from_end : (s : Settings) (all : List Symbol) (n : ℕ) → length all ≤ n → symbols_from s all n ≡ []
unfolding symbols_from
from_end s all n l = let none : length all - n ≡ 0 = omega (arith, l) in ap (λ (k : ℕ). flat_map (tracked_bytes s all) (range_with_len n k)) none
