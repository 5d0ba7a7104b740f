-- The search takes a symbol, or a part of one at the end.
use Rattle.std.proofs.Common.{◌≡◌, ℕ, zero, suc, ◌+◌, ◌<◌, ◌^◌, List, [], ◌∷◌, ◌++◌, length, map, Option, Some, None, refl, ◌∙◌, sym, ap, ap₂, subst, arith}
use Rattle.std.specs.Prelude.{is_some, IfSome, IfNone}
use Rattle.std.specs.List.{range_with_len}
use Rattle.spec_words.specs.Words.{numbers}
use Rattle.frame_build.specs.Symbol.{cells_from}
use Rattle.mode_set.specs.StreamTable.{carriers}
use Rattle.mode_set.specs.declared.settings.Settings.{Settings}
use Rattle.reception.specs.Cells.{symbols, symbol_cells, tail}
use Rattle.reception.specs.Laws.{CellsStay, EndedSymbol, EndsSymbol, IsWithin, OneSymbolMore, SameSymbols, TailIsUnfinished, unfinished}
use Rattle.tps_word.specs.Tps.{IsValid}
use Rattle.tune_in.specs.OfBytes.{FoundInBytes, NoneInBytes, symbols_of}
use Rattle.tune_in.specs.Tuning.{Answers, StandsFor, TunerState}
use Rattle.tune_in.specs.declared.frame.Found.{Found}
use Rattle.tune_search.specs.Searching.{IsSearching, Searched}

map_same : {X : Type 0} (f g : ℕ → X) (a n : ℕ) → ((i : ℕ) → i < n → f (a + i) ≡ g (a + i)) → map f (range_with_len a n) ≡ map g (range_with_len a n)
map_same f g a zero h = refl
map_same {X} f g a (suc n) h =
    let at : a + 0 ≡ a = omega arith in
    ap₂ (λ (x : X) (xs : List X). x ∷ xs) (ap f (sym at) ∙ h 0 (omega arith) ∙ ap g at)
    (map_same f g (a + 1) n (λ i l. let e : a + 1 + i ≡ a + suc i = omega arith in ap f e ∙ h (suc i) (omega (arith, l)) ∙ ap g (sym e)))

-- bytes within a symbol do not change the symbols
symbols_kept : SameSymbols → CellsStay → (s : Settings) (bytes more : List ℕ) → IsWithin s bytes more → symbols_of s (bytes ++ more) ≡ symbols_of s bytes
unfolding symbols_of numbers
symbols_kept same stay s bytes more within =
    ap (λ (n : ℕ). map (symbol_cells s (bytes ++ more)) (range_with_len 0 n)) (same s bytes more within)
    ∙ map_same (symbol_cells s (bytes ++ more)) (symbol_cells s bytes) 0 (symbols s bytes) (λ i l. stay s bytes more (0 + i) (omega (arith, l)))

-- the search has not taken a whole symbol
pub not_whole : SameSymbols → CellsStay → NoneInBytes → (s : Settings) (tuner : TunerState) (waiting bytes piece : List ℕ) → IsWithin s bytes piece → IsSearching s tuner waiting bytes
    → Searched s (IsSearching s tuner waiting) (bytes ++ piece) None
not_whole same stay none s tuner waiting bytes piece within is =
    let stands : StandsFor s.mode tuner (symbols_of s (bytes ++ piece)) = subst (StandsFor s.mode tuner) (sym (symbols_kept same stay s bytes piece within)) is.stands in
    let no_place = none s (bytes ++ piece) stands.none in
    (record { stands = stands; searching = is.searching; number = is.number ∙ sym (same s bytes piece within); empty = is.empty; none = no_place }, no_place)

-- the cells of the symbol that was taken
pub cells_are : TailIsUnfinished → EndedSymbol → (s : Settings) (bytes piece : List ℕ) → tail s bytes ≡ 0 → EndsSymbol s bytes piece → cells_from piece (carriers s.mode) ≡ symbol_cells s (bytes ++ piece) (symbols s bytes)
unfolding symbol_cells
cells_are rest_of ended s bytes piece whole ends =
    let none : unfinished s bytes ≡ [] = empty (unfinished s bytes) (rest_of s bytes ∙ whole) in
    ap (λ (l : List ℕ). cells_from l (carriers s.mode)) (sym ((ended s bytes piece ends).0 ∙ ap (λ (l : List ℕ). l ++ piece) none))
  where
    empty : (l : List ℕ) → length l ≡ 0 → l ≡ []
    empty [] e = refl
    empty (x ∷ l) e = absurd (omega (arith, e))

-- it has taken a symbol, and this is the tuner's answer
pub whole : OneSymbolMore → FoundInBytes → NoneInBytes → (s : Settings) (tuner tuner' : TunerState) (waiting' bytes piece : List ℕ) (result : Option Found)
    → EndsSymbol s bytes piece → tuner.symbols ≡ symbols s bytes → length (symbols_of s (bytes ++ piece)) ≡ symbols s (bytes ++ piece) → waiting' ≡ []
    → Answers s.mode (symbols_of s (bytes ++ piece)) result → IfNone result (StandsFor s.mode tuner' (symbols_of s (bytes ++ piece)))
    → tuner'.symbols ≡ tuner.symbols + 1 → tuner'.found ≡ is_some result
    → IfSome result (λ f. f.place < 2 ^ 32) → IfSome result (λ f. IsValid f.word)
    → Searched s (IsSearching s tuner' waiting') (bytes ++ piece) result
whole one found_in none_in s tuner tuner' waiting' bytes piece None ends number long empty answer stands more is small valid =
    let no_place = none_in s (bytes ++ piece) answer in
    (record { stands = stands; searching = is; number = omega (arith, more, number, (one s bytes piece ends).0); empty = empty; none = no_place }, no_place)
whole one found_in none_in s tuner tuner' waiting' bytes piece (Some found) ends number long empty answer stands more is small valid =
    record { found_in = found_in s (bytes ++ piece) found answer.0; last = answer.1 ∙ long; whole = (one s bytes piece ends).1; small = small; valid = valid }

-- no bytes have no symbol
pub no_symbols : (s : Settings) → symbols s [] ≡ 0 → symbols_of s [] ≡ []
unfolding symbols_of numbers
no_symbols s none = ap (λ (n : ℕ). map (symbol_cells s []) (range_with_len 0 n)) none
