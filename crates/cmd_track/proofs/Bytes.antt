-- The number of symbols in bytes, and the received symbols of bytes that continue.
use Rattle.std.proofs.Common.{◌≡◌, ℕ, zero, suc, ◌+◌, ◌*◌, ◌/◌, ◌%◌, ◌<◌, ◌≤◌, List, [], ◌∷◌, ◌++◌, length, take, drop, refl, ap, ap₂, sym, ◌∙◌, arith, map, length-append, length-take-le}
use Rattle.std.proofs.lemmas.List.{take-append-drop}
use Rattle.std.proofs.lemmas.List.FromFn.{length-map-range_with_len, map-range_with_len_more, take-map-range_with_len}
use Rattle.spec_words.specs.Words.{numbers}
use Rattle.mode_set.specs.StreamTable.{carriers}
use Rattle.mode_set.specs.declared.modes.Mode.{Mode}
use Rattle.mode_set.specs.declared.modes.Mode.TheVariants.{M2k, M8k}
use Rattle.mode_set.specs.declared.settings.Settings.{Settings}
use Rattle.qam_map.specs.declared.cell.Cell.{Cell}
use Rattle.tracking.specs.Tracking.{Symbol}
use Rattle.reception.specs.Cells.{symbol_length, symbols, tail, symbol_cells, symbol_weights}
use Rattle.reception.specs.Laws.{CellsStay, WeightsStay, EndedSymbol, OneSymbolMore, SameSymbols, TailIsUnfinished, unfinished}
use Rattle.law_tracking.specs.Tracked.{received}
use Rattle.cmd_track.specs.Working.{symbol_in}

-- the laws of received symbols
pub record Cuts : Type 0 where
  pub same : SameSymbols
  pub next : OneSymbolMore
  pub tail : TailIsUnfinished
  pub ended : EndedSymbol
  pub cells : CellsStay
  pub weights : WeightsStay

-- ---- numbers, by the mode

some_carriers : (m : Mode) → 0 < 5 * carriers m
some_carriers M2k = omega arith
some_carriers M8k = omega arith

pub some_bytes : (s : Settings) → 0 < symbol_length s
some_bytes s = some_carriers s.mode

none_in : (m : Mode) → (0 / (5 * carriers m) ≡ 0) × (0 % (5 * carriers m) ≡ 0)
none_in M2k = (omega arith, omega arith)
none_in M8k = (omega arith, omega arith)

pub no_symbols : (s : Settings) → symbols s [] ≡ 0
no_symbols s = (none_in s.mode).0

pub no_tail : (s : Settings) → tail s [] ≡ 0
no_tail s = (none_in s.mode).1

grows : (m : Mode) (a b : ℕ) → a ≤ b → a / (5 * carriers m) ≤ b / (5 * carriers m)
grows M2k a b l = omega (arith, l)
grows M8k a b l = omega (arith, l)

pub no_fewer : (s : Settings) (bytes more : List ℕ) → symbols s bytes ≤ symbols s (bytes ++ more)
no_fewer s bytes more = let sum = length-append bytes more in grows s.mode (length bytes) (length (bytes ++ more)) (omega (arith, sum))

limited : (m : Mode) (n most : ℕ) → most < n / (5 * carriers m) → (most * (5 * carriers m) ≤ n) × ((most * (5 * carriers m)) / (5 * carriers m) ≡ most)
limited M2k n most l = (omega (arith, l), omega arith)
limited M8k n most l = (omega (arith, l), omega arith)

-- bytes with more symbols than the limit hold those within it
pub symbols_limited : (s : Settings) (bytes : List ℕ) (most : ℕ) → most < symbols s bytes → symbols s (take (most * symbol_length s) bytes) ≡ most
symbols_limited s bytes most past =
    let l = limited s.mode (length bytes) most past in
    ap (λ (n : ℕ). n / symbol_length s) (length-take-le (most * symbol_length s) bytes l.0) ∙ l.1

tail_more : (m : Mode) (a k : ℕ) → a % (5 * carriers m) + k < 5 * carriers m → (a + k) % (5 * carriers m) ≡ a % (5 * carriers m) + k
tail_more M2k a k l = omega (arith, l)
tail_more M8k a k l = omega (arith, l)

pub longer_tail : (s : Settings) (bytes more : List ℕ) → tail s bytes + length more < symbol_length s → tail s (bytes ++ more) ≡ tail s bytes + length more
longer_tail s bytes more l = ap (λ (n : ℕ). n % symbol_length s) (length-append bytes more) ∙ tail_more s.mode (length bytes) (length more) l

-- ---- symbols

abbrev pub symbol_at : Settings → List ℕ → ℕ → Symbol
symbol_at s bytes m = record { cells = symbol_cells s bytes m; weights = symbol_weights s bytes m }

pub received_long : (s : Settings) (bytes : List ℕ) → length (received s bytes) ≡ symbols s bytes
unfolding received numbers
received_long s bytes = length-map-range_with_len (symbol_at s bytes) 0 (symbols s bytes)

pub nothing_received : (s : Settings) → received s [] ≡ []
unfolding received numbers
nothing_received s = ap (λ (n : ℕ). map (symbol_at s []) (numbers n)) (no_symbols s)

more_numbers : (f : ℕ → Symbol) (n : ℕ) → map f (numbers (suc n)) ≡ map f (numbers n) ++ f n ∷ []
unfolding numbers
more_numbers f n = let next : suc n ≡ n + 1 = omega arith in ap (λ (z : ℕ). map f (numbers z)) next ∙ map-range_with_len_more f 0 n n (omega arith)

-- the first n symbols of bytes that continue
first_stay : Cuts → (s : Settings) (bytes more : List ℕ) (n : ℕ) → n ≤ symbols s bytes → map (symbol_at s (bytes ++ more)) (numbers n) ≡ map (symbol_at s bytes) (numbers n)
unfolding numbers
first_stay cuts s bytes more zero l = refl
first_stay cuts s bytes more (suc n) l =
    let f = symbol_at s (bytes ++ more) in
    let g = symbol_at s bytes in
    let here : f n ≡ g n = ap₂ (λ (c : List Cell) (w : List ℕ). record { cells = c; weights = w }) (cuts.cells s bytes more n (omega (arith, l))) (cuts.weights s bytes more n (omega (arith, l))) in
    more_numbers f n ∙ ap₂ (λ (first : List Symbol) (x : Symbol). first ++ x ∷ []) (first_stay cuts s bytes more n (omega (arith, l))) here ∙ sym (more_numbers g n)

-- the symbols received of a prefix are a prefix of all
pub received_grows : Cuts → (s : Settings) (bytes more : List ℕ) → (rest : List Symbol) × (received s (bytes ++ more) ≡ received s bytes ++ rest)
unfolding received numbers
received_grows cuts s bytes more =
    let n : ℕ = symbols s bytes in
    let all : List Symbol = received s (bytes ++ more) in
    let first : take n all ≡ received s bytes = take-map-range_with_len (symbol_at s (bytes ++ more)) 0 (symbols s (bytes ++ more)) n (no_fewer s bytes more) ∙ first_stay cuts s bytes more n (omega arith) in
    (drop n all, sym (take-append-drop n all) ∙ ap (λ (l : List Symbol). l ++ drop n all) first)

-- bytes that do not complete a symbol
pub received_same : Cuts → (s : Settings) (bytes more : List ℕ) → tail s bytes + length more < symbol_length s → received s (bytes ++ more) ≡ received s bytes
unfolding received
received_same cuts s bytes more l =
    ap (λ (n : ℕ). map (symbol_at s (bytes ++ more)) (numbers n)) (cuts.same s bytes more l) ∙ first_stay cuts s bytes more (symbols s bytes) (omega arith)

-- the bytes of a whole symbol
nothing_left : Cuts → (s : Settings) (bytes : List ℕ) → tail s bytes ≡ 0 → unfinished s bytes ≡ []
nothing_left cuts s bytes none = empty (unfinished s bytes) (cuts.tail s bytes ∙ none)
  where
    empty : (l : List ℕ) → length l ≡ 0 → l ≡ []
    empty [] e = refl
    empty (x ∷ l) e = absurd (omega (arith, e))

next_symbol : Cuts → (s : Settings) (bytes piece : List ℕ) → tail s bytes ≡ 0 → tail s bytes + length piece ≡ symbol_length s → symbol_at s (bytes ++ piece) (symbols s bytes) ≡ symbol_in piece (carriers s.mode)
unfolding symbol_cells symbol_weights
next_symbol cuts s bytes piece none ends =
    ap (λ (b : List ℕ). symbol_in b (carriers s.mode)) ((cuts.ended s bytes piece ends).0 ∙ ap (λ (l : List ℕ). l ++ piece) (nothing_left cuts s bytes none))

pub received_more : Cuts → (s : Settings) (bytes piece : List ℕ) → tail s bytes ≡ 0 → tail s bytes + length piece ≡ symbol_length s → received s (bytes ++ piece) ≡ received s bytes ++ symbol_in piece (carriers s.mode) ∷ []
unfolding received
received_more cuts s bytes piece none ends =
    let n : ℕ = symbols s bytes in
    let f = symbol_at s (bytes ++ piece) in
    let next : symbols s (bytes ++ piece) ≡ suc n = let e = (cuts.next s bytes piece ends).0 in omega (arith, e) in
    ap (λ (k : ℕ). map f (numbers k)) next ∙ more_numbers f n ∙ ap₂ (λ (first : List Symbol) (x : Symbol). first ++ x ∷ []) (first_stay cuts s bytes piece n (omega arith)) (next_symbol cuts s bytes piece none ends)
