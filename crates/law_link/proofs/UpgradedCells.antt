-- Upgraded cells are the old ones, with full weights.
use Rattle.std.proofs.Common.{◌≡◌, ℕ, zero, suc, ◌+◌, ◌*◌, ◌/◌, ◌%◌, ◌<◌, ◌≤◌, List, [], ◌∷◌, ◌++◌, length, map, drop, get_or, refl, sym, ap, ◌∙◌, arith, ◌⊎◌, inl, inr, length-take, length-drop}
use Rattle.std.specs.Prelude.{pos, slice_index, flat_map}
use Rattle.std.specs.Int.{cast_signed, w16}
use Rattle.std.specs.List.{range_with_len}
use Rattle.std.proofs.lemmas.Bool.{cases_lt}
use Rattle.std.proofs.lemmas.List.{get_or-drop, get_or-take, ext_get_or}
use Rattle.std.proofs.lemmas.List.FromFn.{length-map-range_with_len, get_or-map-range_with_len}
use Rattle.byteorder.specs.Endian.{big_number}
use Rattle.spec_words.specs.Words.{numbers}
use Rattle.mode_set.specs.StreamTable.{carriers}
use Rattle.mode_set.specs.declared.modes.Mode.{Mode}
use Rattle.mode_set.specs.declared.modes.Mode.TheVariants.{M2k, M8k}
use Rattle.mode_set.specs.declared.settings.Settings.{Settings}
use Rattle.qam_map.specs.declared.cell.Cell.{Cell}
use Rattle.soft_metric.specs.Weights.{full_weight, weight_of_byte}
use Rattle.frame_build.specs.Symbol.{cell_from, weight_from, cells_from, weights_from}
use Rattle.inner_chain.specs.CostPairs.{weight_of}
use Rattle.reception.specs.Cells.{symbol_length, bytes_of_symbol, symbol_cells, symbol_weights}
use Rattle.law_link.specs.OldCells.{old_symbols, old_cell, old_cell_from, old_symbol_cells, upgraded_cell, upgraded_cells, upgraded}
use Rattle.law_link.specs.UpgradedCells.{UpgradedAreWhole, UpgradedCellsAreOld}
use Rattle.frame_build.proofs.Parts.{same_below, parts_long, part_is}

-- ---- bytes
four_are : (p : List ℕ) → length p ≡ 4 → p ≡ get_or p 0 0 ∷ get_or p 1 0 ∷ get_or p 2 0 ∷ get_or p 3 0 ∷ []
four_are [] e = absurd (omega (arith, e))
four_are (a ∷ []) e = absurd (omega (arith, e))
four_are (a ∷ b ∷ []) e = absurd (omega (arith, e))
four_are (a ∷ b ∷ c ∷ []) e = absurd (omega (arith, e))
four_are (a ∷ b ∷ c ∷ d ∷ []) e = refl
four_are (a ∷ b ∷ c ∷ d ∷ f ∷ p) e = absurd (omega (arith, e))

quad : ℕ → ℕ → ℕ → ℕ → List ℕ
quad a b c d = a ∷ b ∷ c ∷ d ∷ full_weight ∷ []

-- the four bytes of a cell one by one, and its weight
five : List ℕ → ℕ → List ℕ
five bytes k = get_or bytes (4 * k + 0) 0 ∷ get_or bytes (4 * k + 1) 0 ∷ get_or bytes (4 * k + 2) 0 ∷ get_or bytes (4 * k + 3) 0 ∷ full_weight ∷ []

byte_of : (bytes : List ℕ) (k j : ℕ) → j < 4 → get_or (old_cell bytes k) j 0 ≡ get_or bytes (4 * k + j) 0
byte_of bytes k j l = get_or-take 4 (drop (4 * k) bytes) j 0 l ∙ get_or-drop (4 * k) bytes j 0

-- a cell in the bytes has five bytes
cell_is : (bytes : List ℕ) (k : ℕ) → 4 * k + 4 ≤ length bytes → upgraded_cell bytes k ≡ five bytes k
unfolding five quad
cell_is bytes k held =
    let long : length (old_cell bytes k) ≡ 4 = (let t = length-take 4 (drop (4 * k) bytes) in let d = length-drop (4 * k) bytes in omega (arith, held, t, d)) in
    ap (λ (p : List ℕ). p ++ full_weight ∷ []) (four_are (old_cell bytes k) long)
    ∙ ap (λ (z : ℕ). quad z (get_or (old_cell bytes k) 1 0) (get_or (old_cell bytes k) 2 0) (get_or (old_cell bytes k) 3 0)) (byte_of bytes k 0 (omega arith))
    ∙ ap (λ (z : ℕ). quad (get_or bytes (4 * k + 0) 0) z (get_or (old_cell bytes k) 2 0) (get_or (old_cell bytes k) 3 0)) (byte_of bytes k 1 (omega arith))
    ∙ ap (λ (z : ℕ). quad (get_or bytes (4 * k + 0) 0) (get_or bytes (4 * k + 1) 0) z (get_or (old_cell bytes k) 3 0)) (byte_of bytes k 2 (omega arith))
    ∙ ap (λ (z : ℕ). quad (get_or bytes (4 * k + 0) 0) (get_or bytes (4 * k + 1) 0) (get_or bytes (4 * k + 2) 0) z) (byte_of bytes k 3 (omega arith))

five_long : (bytes : List ℕ) (k : ℕ) → length (five bytes k) ≡ 5
unfolding five
five_long bytes k = refl

-- the cells of the whole symbols
count : Mode → List ℕ → ℕ
count mode bytes = old_symbols mode bytes * carriers mode

held : (mode : Mode) (n k : ℕ) → k < n / (4 * carriers mode) * carriers mode → 4 * k + 4 ≤ n
held M2k n k l = omega (arith, l)
held M8k n k l = omega (arith, l)

upgraded_is : (mode : Mode) (bytes : List ℕ) → upgraded mode bytes ≡ flat_map (five bytes) (numbers (count mode bytes))
unfolding upgraded_cells count
upgraded_is mode bytes = same_below (upgraded_cell bytes) (five bytes) (count mode bytes) (λ k l. cell_is bytes k (held mode (length bytes) k l))

upgraded_long : (mode : Mode) (bytes : List ℕ) → length (upgraded mode bytes) ≡ 5 * count mode bytes
upgraded_long mode bytes = ap length (upgraded_is mode bytes) ∙ parts_long (five bytes) 5 (five_long bytes) (count mode bytes)

upgraded_byte : (mode : Mode) (bytes : List ℕ) (k j : ℕ) → k < count mode bytes → j < 5 → get_or (upgraded mode bytes) (5 * k + j) 0 ≡ get_or (five bytes k) j 0
upgraded_byte mode bytes k j l m = ap (λ (z : List ℕ). get_or z (5 * k + j) 0) (upgraded_is mode bytes) ∙ part_is (five bytes) 5 (five_long bytes) (count mode bytes) k j l m

whole : (mode : Mode) (n : ℕ) → 5 * (n * carriers mode) / (5 * carriers mode) ≡ n
whole M2k n = omega arith
whole M8k n = omega arith

no_rest : (mode : Mode) (n : ℕ) → 5 * (n * carriers mode) % (5 * carriers mode) ≡ 0
no_rest M2k n = omega arith
no_rest M8k n = omega arith

pub upgraded_are_whole : UpgradedAreWhole
unfolding count
upgraded_are_whole s bytes = record {
  many = ap (λ (z : ℕ). z / symbol_length s) (upgraded_long s.mode bytes) ∙ whole s.mode (old_symbols s.mode bytes);
  no_more = ap (λ (z : ℕ). z % symbol_length s) (upgraded_long s.mode bytes) ∙ no_rest s.mode (old_symbols s.mode bytes);
}

in_all : (mode : Mode) (m n k : ℕ) → m < n → k < carriers mode → m * carriers mode + k < n * carriers mode
in_all M2k m n k l few = omega (arith, l, few)
in_all M8k m n k l few = omega (arith, l, few)

place : (mode : Mode) (m k j : ℕ) → m * (5 * carriers mode) + (5 * k + j) ≡ 5 * (m * carriers mode + k) + j
place M2k m k j = omega arith
place M8k m k j = omega arith

new_byte : (s : Settings) (bytes : List ℕ) (m k j : ℕ) → m < old_symbols s.mode bytes → k < carriers s.mode → j < 5
    → get_or (bytes_of_symbol s (upgraded s.mode bytes) m) (5 * k + j) 0 ≡ get_or (five bytes (m * carriers s.mode + k)) j 0
unfolding bytes_of_symbol count
new_byte s bytes m k j l few less =
    get_or-take (symbol_length s) (drop (m * symbol_length s) (upgraded s.mode bytes)) (5 * k + j) 0 (omega (arith, few, less))
    ∙ get_or-drop (m * symbol_length s) (upgraded s.mode bytes) (5 * k + j) 0
    ∙ ap (λ (z : ℕ). get_or (upgraded s.mode bytes) z 0) (place s.mode m k j)
    ∙ upgraded_byte s.mode bytes (m * carriers s.mode + k) j (in_all s.mode m (old_symbols s.mode bytes) k l few) less

-- ---- cells a number of two bytes is that of the bytes
two_bytes : (xs ys : List ℕ) (i j : ℕ) → get_or xs (i + 0) 0 ≡ get_or ys (j + 0) 0 → get_or xs (i + 1) 0 ≡ get_or ys (j + 1) 0 → big_number 2 (drop i xs) ≡ big_number 2 (drop j ys)
two_bytes xs ys i j e f =
    let a : slice_index (drop i xs) 0 ≡ slice_index (drop j ys) 0 = get_or-drop i xs 0 0 ∙ e ∙ sym (get_or-drop j ys 0 0) in
    let b : slice_index (drop i xs) 1 ≡ slice_index (drop j ys) 1 = get_or-drop i xs 1 0 ∙ f ∙ sym (get_or-drop j ys 1 0) in
    omega (arith, a, b)

-- two numbers make a cell
made : ℕ → ℕ → Cell
made re im = record { re = cast_signed w16 re; im = cast_signed w16 im }

same_cell : (s : Settings) (bytes : List ℕ) (m k : ℕ) → m < old_symbols s.mode bytes → k < carriers s.mode
    → cell_from (bytes_of_symbol s (upgraded s.mode bytes) m) k ≡ old_cell_from bytes (m * carriers s.mode + k)
unfolding cell_from old_cell_from made five
same_cell s bytes m k l few = ap (λ (z : ℕ). made z (big_number 2 (drop (5 * k + 2) xs))) re ∙ ap (λ (z : ℕ). made (big_number 2 (drop (4 * c) bytes)) z) im
  where
    xs : List ℕ
    xs = bytes_of_symbol s (upgraded s.mode bytes) m

    c : ℕ
    c = m * carriers s.mode + k

    behind : (j : ℕ) → (5 * k + 2 + j ≡ 5 * k + (2 + j)) × (4 * c + 2 + j ≡ 4 * c + (2 + j))
    behind j = (omega arith, omega arith)

    re : big_number 2 (drop (5 * k) xs) ≡ big_number 2 (drop (4 * c) bytes)
    re = two_bytes xs bytes (5 * k) (4 * c) (new_byte s bytes m k 0 l few (omega arith)) (new_byte s bytes m k 1 l few (omega arith))

    im : big_number 2 (drop (5 * k + 2) xs) ≡ big_number 2 (drop (4 * c + 2) bytes)
    im = two_bytes xs bytes (5 * k + 2) (4 * c + 2)
        (ap (λ (z : ℕ). get_or xs z 0) (behind 0).0 ∙ new_byte s bytes m k 2 l few (omega arith) ∙ ap (λ (z : ℕ). get_or bytes z 0) (sym (behind 0).1))
        (ap (λ (z : ℕ). get_or xs z 0) (behind 1).0 ∙ new_byte s bytes m k 3 l few (omega arith) ∙ ap (λ (z : ℕ). get_or bytes z 0) (sym (behind 1).1))

no_cell : Cell
no_cell = record { re = pos 0; im = pos 0 }

in_range : (i : ℕ) → 0 + i ≡ i
in_range i = omega arith

pub same_cells : UpgradedCellsAreOld
unfolding symbol_cells old_symbol_cells cells_from numbers
same_cells s bytes m l = ext_get_or no_cell (map f (range_with_len 0 n)) (map g (range_with_len 0 n)) (long f ∙ sym (long g)) each
  where
    n : ℕ
    n = carriers s.mode

    f : ℕ → Cell
    f = cell_from (bytes_of_symbol s (upgraded s.mode bytes) m)

    g : ℕ → Cell
    g k = old_cell_from bytes (m * carriers s.mode + k)

    long : (h : ℕ → Cell) → length (map h (range_with_len 0 n)) ≡ n
    long h = length-map-range_with_len h 0 n

    each : (i : ℕ) → i < length (map f (range_with_len 0 n)) → get_or (map f (range_with_len 0 n)) i no_cell ≡ get_or (map g (range_with_len 0 n)) i no_cell
    each i less =
        let few : i < n = (let e = long f in omega (arith, less, e)) in
        get_or-map-range_with_len f 0 n i i no_cell few (in_range i) ∙ same_cell s bytes m i l few ∙ sym (get_or-map-range_with_len g 0 n i i no_cell few (in_range i))

-- ---- weights
own_weight : (s : Settings) (bytes : List ℕ) (m k : ℕ) → m < old_symbols s.mode bytes → k < carriers s.mode → weight_from (bytes_of_symbol s (upgraded s.mode bytes) m) k ≡ full_weight
unfolding weight_from five
own_weight s bytes m k l few = ap weight_of_byte (new_byte s bytes m k 4 l few (omega arith))

past : (ws : List ℕ) (i : ℕ) → length ws ≤ i → get_or ws i full_weight ≡ full_weight
past [] i l = refl
past (w ∷ ws) zero l = absurd (omega (arith, l))
past (w ∷ ws) (suc i) l = past ws i (omega (arith, l))

pub whole_weights : (s : Settings) (bytes : List ℕ) (m k : ℕ) → m < old_symbols s.mode bytes → weight_of (symbol_weights s (upgraded s.mode bytes) m) k ≡ full_weight
unfolding symbol_weights weights_from numbers
whole_weights s bytes m k l = ap weight_of_byte (go (cases_lt k (carriers s.mode)))
  where
    f : ℕ → ℕ
    f = weight_from (bytes_of_symbol s (upgraded s.mode bytes) m)

    go : (k < carriers s.mode) ⊎ (carriers s.mode ≤ k) → get_or (map f (range_with_len 0 (carriers s.mode))) k full_weight ≡ full_weight
    go (inl few) = get_or-map-range_with_len f 0 (carriers s.mode) k k full_weight few (in_range k) ∙ own_weight s bytes m k l few
    go (inr more) = past (map f (range_with_len 0 (carriers s.mode))) k (let e = length-map-range_with_len f 0 (carriers s.mode) in omega (arith, more, e))
