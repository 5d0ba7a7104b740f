-- The symbols of bytes.
use Rattle.std.proofs.Common.{◌≡◌, ℕ, ◌+◌, ◌*◌, ◌/◌, ◌<◌, ◌≤◌, inl, inr, ◌⊎◌, Bool, List, [], ◌∷◌, ◌++◌, length, map, get_or, sym, ap, ◌∙◌, subst, arith}
use Rattle.std.specs.List.{range_with_len}
use Rattle.std.proofs.lemmas.Bool.{cases_lt}
use Rattle.std.proofs.lemmas.List.{ext_get_or, get_or_append_left, get_or_push, length-append, length_push}
use Rattle.std.proofs.lemmas.List.FromFn.{length-map-range_with_len, get_or-map-range_with_len}
use Rattle.spec_words.specs.Words.{numbers}
use Rattle.mode_set.specs.StreamTable.{carriers}
use Rattle.mode_set.specs.declared.modes.Mode.{Mode}
use Rattle.mode_set.specs.declared.modes.Mode.TheVariants.{M2k, M8k}
use Rattle.mode_set.specs.declared.settings.Settings.{Settings}
use Rattle.qam_map.specs.declared.cell.Cell.{Cell}
use Rattle.reception.specs.Cells.{symbols, symbol_cells}
use Rattle.reception.specs.Frames.{tps_cells}
use Rattle.reception.specs.Laws.{OneSymbolMore, CellsStay, TpsCellsStay}
use Rattle.tps_word.specs.Vote.{tps_cells_of}
use Rattle.tps_word.specs.declared.word.TpsWord.{TpsWord}
use Rattle.tune_in.specs.declared.frame.Found.{Found}
use Rattle.tune_in.specs.Places.{Announces, IsPlace, NoPlace, IsFound}
use Rattle.tune_in.specs.Tuning.{tps_of}
use Rattle.tune_in.specs.OfBytes.{symbols_of, IsFoundIn, HasNoPlace, FoundStaysInBytes, SymbolIsAdded}
use Rattle.tune_in.proofs.Votes.{bits_agree}
use Rattle.tune_in.proofs.OneFrame.{stays}

place_agrees : (mode : Mode) (f g : ℕ → List Cell) (n i : ℕ) (w : TpsWord) → ((m : ℕ) → m < n → f m ≡ g m) → IsPlace mode g n i w → IsPlace mode f n i w
place_agrees mode f g n i w same h = record { held = h.held; announces = subst (λ (b : List Bool). Announces mode b w) (sym (bits_agree f g n i h.held same)) h.announces }

found_agrees : (mode : Mode) (f g : ℕ → List Cell) (n : ℕ) (found : Found) → ((m : ℕ) → m < n → f m ≡ g m) → IsFound mode f n found → IsFound mode g n found
found_agrees mode f g n found same h = record {
  place = place_agrees mode g f n found.place found.word (λ m l. sym (same m l)) h.place;
  least = λ i w p. h.least i w (place_agrees mode f g n i w same p);
}

cells_of_bytes : (s : Settings) (bytes : List ℕ) (m : ℕ) → m < symbols s bytes → tps_of s.mode (symbols_of s bytes) m ≡ tps_cells s bytes m
unfolding tps_of tps_cells symbols_of numbers
cells_of_bytes s bytes m l =
    let place : 0 + m ≡ m = omega arith in
    ap (tps_cells_of s.mode) (get_or-map-range_with_len (symbol_cells s bytes) 0 (symbols s bytes) m m [] l place)

count_of_bytes : (s : Settings) (bytes : List ℕ) → length (symbols_of s bytes) ≡ symbols s bytes
unfolding symbols_of numbers
count_of_bytes s bytes = length-map-range_with_len (symbol_cells s bytes) 0 (symbols s bytes)

pub found_in : (s : Settings) (bytes : List ℕ) (found : Found) → IsFound s.mode (tps_of s.mode (symbols_of s bytes)) (length (symbols_of s bytes)) found → IsFoundIn s bytes found
found_in s bytes found h = found_agrees s.mode (tps_of s.mode (symbols_of s bytes)) (tps_cells s bytes) (symbols s bytes) found (cells_of_bytes s bytes)
    (subst (λ n. IsFound s.mode (tps_of s.mode (symbols_of s bytes)) n found) (count_of_bytes s bytes) h)

pub none_in : (s : Settings) (bytes : List ℕ) → NoPlace s.mode (tps_of s.mode (symbols_of s bytes)) (length (symbols_of s bytes)) → HasNoPlace s bytes
none_in s bytes h i w p = subst (NoPlace s.mode (tps_of s.mode (symbols_of s bytes))) (count_of_bytes s bytes) h i w
    (place_agrees s.mode (tps_of s.mode (symbols_of s bytes)) (tps_cells s bytes) (symbols s bytes) i w (cells_of_bytes s bytes) p)

-- ---- more bytes

count_grows : (m : Mode) (a b : ℕ) → a ≤ b → a / (5 * carriers m) ≤ b / (5 * carriers m)
count_grows M2k a b l = omega (arith, l)
count_grows M8k a b l = omega (arith, l)

pub stays_in_bytes : TpsCellsStay → FoundStaysInBytes
stays_in_bytes same s bytes more found h =
    stays s.mode (tps_cells s (bytes ++ more)) (symbols s bytes) (symbols s (bytes ++ more)) found
    (count_grows s.mode (length bytes) (length (bytes ++ more)) (omega (arith, length-append bytes more)))
    (found_agrees s.mode (tps_cells s bytes) (tps_cells s (bytes ++ more)) (symbols s bytes) found (λ m l. sym (same s bytes more m l)) h)

-- one more number is one more item
mapped_more : (f g : ℕ → List Cell) (n : ℕ) → ((m : ℕ) → m < n → f m ≡ g m) → map f (range_with_len 0 (n + 1)) ≡ map g (range_with_len 0 n) ++ f n ∷ []
mapped_more f g n same =
    let long : length (map g (range_with_len 0 n)) ≡ n = length-map-range_with_len g 0 n in
    let all : length (map f (range_with_len 0 (n + 1))) ≡ n + 1 = length-map-range_with_len f 0 (n + 1) in
    ext_get_or [] (map f (range_with_len 0 (n + 1))) (map g (range_with_len 0 n) ++ f n ∷ []) (all ∙ omega (arith, length_push (map g (range_with_len 0 n)) (f n), long)) (λ i l. go i (omega (arith, l, all)) (cases_lt i n))
  where
    go : (i : ℕ) → i < n + 1 → (i < n) ⊎ (n ≤ i) → get_or (map f (range_with_len 0 (n + 1))) i [] ≡ get_or (map g (range_with_len 0 n) ++ f n ∷ []) i []
    go i l (inl before) =
        let place : 0 + i ≡ i = omega arith in
        get_or-map-range_with_len f 0 (n + 1) i i [] l place ∙ same i before ∙ sym (get_or-map-range_with_len g 0 n i i [] before place)
        ∙ sym (get_or_append_left (map g (range_with_len 0 n)) (f n ∷ []) [] i (omega (arith, before, length-map-range_with_len g 0 n)))
    go i l (inr behind) =
        let place : 0 + i ≡ i = omega arith in
        let last : i ≡ n = omega (arith, l, behind) in
        let end : length (map g (range_with_len 0 n)) ≡ i = omega (arith, length-map-range_with_len g 0 n, last) in
        get_or-map-range_with_len f 0 (n + 1) i i [] l place ∙ ap f last ∙ sym (get_or_push (map g (range_with_len 0 n)) (f n) [] i end)

pub symbol_is_added : OneSymbolMore → CellsStay → SymbolIsAdded
unfolding symbols_of numbers
symbol_is_added count same s bytes more ends =
    ap (λ n. map (symbol_cells s (bytes ++ more)) (range_with_len 0 n)) (count s bytes more ends).0 ∙ mapped_more (symbol_cells s (bytes ++ more)) (symbol_cells s bytes) (symbols s bytes) (same s bytes more)
