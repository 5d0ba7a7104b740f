-- Bytes that are read as cells and weights, three or six cells at a time.
use Rattle.std.proofs.Common.{◌≡◌, ◌≢◌, ℤ, ℕ, zero, suc, ◌+◌, ◌*◌, ◌<◌, ◌≤◌, ◌⊎◌, inl, inr, List, [], ◌∷◌, ◌++◌, take, drop, length, get_or, set, refl, sym, ap, ap₂, ◌∙◌, subst, arith, pos, w8, w16, lit<, Fits}
use Rattle.std.specs.Prelude.{slice_index}
use Rattle.std.specs.Int.{cast_signed}
use Rattle.std.specs.Simd.Lanes.{number_l, digits_l, chunk, Each1}
use Rattle.std.proofs.lemmas.Bool.{cases_lt}
use Rattle.std.proofs.lemmas.Simd.{get_or_wider, get_or-chunk, length-chunk, Each1-get_or}
use Rattle.std.proofs.lemmas.List.{get_or_append_left, get_or-drop, get_or-take, length-set, get_or-set_same, get_or-set_other}
use Rattle.byteorder.specs.Endian.{big_number}
use Rattle.qam_map.specs.declared.cell.Cell.{Cell}
use Rattle.frame_build.specs.Reading.{AreParts, AreCellsTo, AreWeightsTo}
use Rattle.frame_build.specs.Symbol.{cell_from, weight_from}

-- one more of a list is as a function says
pub one_more : {A : Type 0} (f : ℕ → A) (xs : List A) (d x : A) (k : ℕ) → ((j : ℕ) → j < k → get_or xs j d ≡ f j) → k < length xs → x ≡ f k → (j : ℕ) → j < k + 1 → get_or (set xs k x) j d ≡ f j
one_more f xs d x k before within is j l = go (cases_lt j k)
  where
    go : (j < k) ⊎ (k ≤ j) → get_or (set xs k x) j d ≡ f j
    go (inl less) = let other : j ≢ k = omega (arith, less) in get_or-set_other xs k j x d other ∙ before j less
    go (inr more) = let same : k ≡ j = omega (arith, l, more) in subst (λ (z : ℕ). get_or (set xs k x) z d ≡ f z) same (get_or-set_same xs k x d within ∙ is)

-- sixteen elements in a row
pub part_at : (xs : List ℕ) (i n k : ℕ) → k < 16 → n ≡ 16 → get_or (take 16 (take n (drop i xs))) k 0 ≡ get_or xs (i + k) 0
part_at xs i n k l e = get_or-take 16 (take n (drop i xs)) k 0 l ∙ get_or-take n (drop i xs) k 0 (omega (arith, e)) ∙ get_or-drop i xs k 0

-- two bytes as a number
pub two_bytes : (xs : List ℕ) (n : ℕ) → big_number 2 (drop n xs) ≡ 256 * slice_index xs n + slice_index xs (n + 1)
two_bytes xs n =
    let here : n + 0 ≡ n = omega arith in
    let first : slice_index (drop n xs) 0 ≡ slice_index xs n = get_or-drop n xs 0 0 ∙ ap (λ (z : ℕ). slice_index xs z) here in
    let second : slice_index (drop n xs) 1 ≡ slice_index xs (n + 1) = get_or-drop n xs 1 0 in
    omega (arith, first, second)

two_digits : (ys : List ℕ) → length ys ≡ 2 → number_l 256 ys ≡ get_or ys 0 0 + 256 * get_or ys 1 0
two_digits (a ∷ b ∷ []) l = omega arith
two_digits [] l = absurd (omega (arith, l))
two_digits (a ∷ []) l = absurd (omega (arith, l))
two_digits (a ∷ b ∷ c ∷ ys) l = absurd (omega (arith, l))

-- lane i of sixteen bytes, two of which are a lane
pub lane_is : (bytes : List ℕ) (i : ℕ) → length bytes ≡ 16 → Each1 (λ d. d < 256) bytes → i < 8
    → get_or (digits_l 65536 8 (number_l 256 bytes)) i 0 ≡ get_or bytes (2 * i) 0 + 256 * get_or bytes (2 * i + 1) 0
lane_is bytes i long fits l =
    let here : 2 * i + 0 ≡ 2 * i = omega arith in
    get_or_wider 256 2 65536 8 bytes i refl fits (omega (arith, l, long))
    ∙ two_digits (chunk (2 * i) 2 bytes) (length-chunk (2 * i) 2 bytes (omega (arith, l, long)))
    ∙ ap₂ (λ x y. x + 256 * y) (get_or-chunk (2 * i) 2 bytes 0 0 (lit< tt) ∙ ap (λ z. get_or bytes z 0) here) (get_or-chunk (2 * i) 2 bytes 1 0 (lit< tt))

-- the cell of two parts
pub made : ℤ → ℤ → Cell
made re im = record { re = re; im = im }

pub cell_made : (bytes parts : List ℕ) (k i : ℕ) (c : Cell) → AreParts bytes k parts → i < 3 → c.re ≡ cast_signed w16 (slice_index parts (2 * i)) → c.im ≡ cast_signed w16 (slice_index parts (2 * i + 1))
    → c ≡ cell_from bytes (k + i)
unfolding cell_from made
cell_made bytes parts k i c are l re im =
    ap (λ (z : ℤ). made z c.im) (re ∙ ap (cast_signed w16) (are i l).0)
    ∙ ap (made (cast_signed w16 (big_number 2 (drop (5 * (k + i)) bytes)))) (im ∙ ap (cast_signed w16) (are i l).1)

-- three cells more
pub three_more : (bytes : List ℕ) (cells : List Cell) (a b c : Cell) (k : ℕ) → k + 3 ≤ length cells → a ≡ cell_from bytes (k + 0) → b ≡ cell_from bytes (k + 1) → c ≡ cell_from bytes (k + 2)
    → AreCellsTo bytes cells k → AreCellsTo bytes (set (set (set cells k a) (k + 1) b) (k + 2) c) (k + 3)
three_more bytes cells a b c k room ea eb ec are =
    let d : Cell = record { re = pos 0; im = pos 0 } in
    let here : k + 0 ≡ k = omega arith in
    let one : List Cell = set cells k a in
    let two : List Cell = set one (k + 1) b in
    let one_long : length one ≡ length cells = length-set cells k a in
    let two_long : length two ≡ length cells = length-set one (k + 1) b ∙ one_long in
    let first = one_more (cell_from bytes) cells d a k are (omega (arith, room)) (ea ∙ ap (cell_from bytes) here) in
    let second = one_more (cell_from bytes) one d b (k + 1) first (omega (arith, room, one_long)) eb in
    λ j l. one_more (cell_from bytes) two d c (k + 2) (λ i m. second i (omega (arith, m))) (omega (arith, room, two_long)) ec j (omega (arith, l))

-- the bytes of three cells, in each part the low byte first
abbrev pub low_first : List ℕ → List ℕ
low_first b =
    slice_index b 1 ∷ slice_index b 0 ∷ slice_index b 3 ∷ slice_index b 2 ∷ slice_index b 6 ∷ slice_index b 5 ∷ slice_index b 8 ∷ slice_index b 7
    ∷ slice_index b 11 ∷ slice_index b 10 ∷ slice_index b 13 ∷ slice_index b 12 ∷ slice_index b 0 ∷ slice_index b 0 ∷ slice_index b 0 ∷ slice_index b 0 ∷ []

module _ (b : List ℕ) (long : length b ≡ 16) (fits : Each1 (Fits w8) b) where
  at : (j : ℕ) → j < 16 → slice_index (b ++ b) j ≡ slice_index b j
  at j l = get_or_append_left b b 0 j (omega (arith, l, long))

  small : (j : ℕ) → j < 16 → slice_index (b ++ b) j < 256
  small j l = omega (arith, at j l, (Each1-get_or (Fits w8) b j 0 (omega (arith, l, long)) fits).fits)

  all_small : Each1 (λ d. d < 256) (low_first (b ++ b))
  all_small = (small 1 (omega arith), (small 0 (omega arith), (small 3 (omega arith), (small 2 (omega arith), (small 6 (omega arith), (small 5 (omega arith), (small 8 (omega arith), (small 7 (omega arith), (small 11 (omega arith), (small 10 (omega arith), (small 13 (omega arith), (small 12 (omega arith), (small 0 (omega arith), (small 0 (omega arith), (small 0 (omega arith), (small 0 (omega arith), tt))))))))))))))))

  lane_of : (i x y : ℕ) → i < 8 → get_or (low_first (b ++ b)) (2 * i) 0 ≡ y → get_or (low_first (b ++ b)) (2 * i + 1) 0 ≡ x → slice_index (digits_l 65536 8 (number_l 256 (low_first (b ++ b)))) i ≡ 256 * x + y
  lane_of i x y l low high = omega (arith, lane_is (low_first (b ++ b)) i refl all_small l, low, high)

  pub real_parts : (i : ℕ) → i < 3 → slice_index (digits_l 65536 8 (number_l 256 (low_first (b ++ b)))) (2 * i) ≡ 256 * slice_index b (5 * i) + slice_index b (5 * i + 1)
  real_parts zero l = lane_of 0 (slice_index b 0) (slice_index b 1) (omega arith) (at 1 (omega arith)) (at 0 (omega arith))
  real_parts (suc zero) l = lane_of 2 (slice_index b 5) (slice_index b 6) (omega arith) (at 6 (omega arith)) (at 5 (omega arith))
  real_parts (suc (suc zero)) l = lane_of 4 (slice_index b 10) (slice_index b 11) (omega arith) (at 11 (omega arith)) (at 10 (omega arith))
  real_parts (suc (suc (suc i))) l = absurd (omega (arith, l))

  pub imaginary_parts : (i : ℕ) → i < 3 → slice_index (digits_l 65536 8 (number_l 256 (low_first (b ++ b)))) (2 * i + 1) ≡ 256 * slice_index b (5 * i + 2) + slice_index b (5 * i + 3)
  imaginary_parts zero l = lane_of 1 (slice_index b 2) (slice_index b 3) (omega arith) (at 3 (omega arith)) (at 2 (omega arith))
  imaginary_parts (suc zero) l = lane_of 3 (slice_index b 7) (slice_index b 8) (omega arith) (at 8 (omega arith)) (at 7 (omega arith))
  imaginary_parts (suc (suc zero)) l = lane_of 5 (slice_index b 12) (slice_index b 13) (omega arith) (at 13 (omega arith)) (at 12 (omega arith))
  imaginary_parts (suc (suc (suc i))) l = absurd (omega (arith, l))

pub parts_read : (bytes lanes parts : List ℕ) (k : ℕ) → ((j : ℕ) → j < 16 → slice_index lanes j ≡ slice_index bytes (5 * k + j))
    → ((i : ℕ) → i < 3 → slice_index parts (2 * i) ≡ 256 * slice_index lanes (5 * i) + slice_index lanes (5 * i + 1))
    → ((i : ℕ) → i < 3 → slice_index parts (2 * i + 1) ≡ 256 * slice_index lanes (5 * i + 2) + slice_index lanes (5 * i + 3)) → AreParts bytes k parts
parts_read bytes lanes parts k are real imaginary i l =
    let at : (n m : ℕ) → 5 * i + n < 16 → 5 * k + (5 * i + n) ≡ m → slice_index lanes (5 * i + n) ≡ slice_index bytes m = λ n m low same. are (5 * i + n) low ∙ ap (λ (z : ℕ). slice_index bytes z) same in
    let here : 5 * i + 0 ≡ 5 * i = omega arith in
    let first : slice_index lanes (5 * i) ≡ slice_index bytes (5 * (k + i)) = ap (λ (z : ℕ). slice_index lanes z) (sym here) ∙ at 0 (5 * (k + i)) (omega (arith, l)) (omega arith) in (
      real i l ∙ ap₂ (λ (x y : ℕ). 256 * x + y) first (at 1 (5 * (k + i) + 1) (omega (arith, l)) (omega arith)) ∙ sym (two_bytes bytes (5 * (k + i))),
      imaginary i l ∙ ap₂ (λ (x y : ℕ). 256 * x + y) (at 2 (5 * (k + i) + 2) (omega (arith, l)) (omega arith)) (at 3 (5 * (k + i) + 2 + 1) (omega (arith, l)) (omega arith)) ∙ sym (two_bytes bytes (5 * (k + i) + 2)),
    )

-- six weights more
pub by_six : (P : ℕ → Type 0) → P 0 → P 1 → P 2 → P 3 → P 4 → P 5 → (i : ℕ) → i < 6 → P i
by_six P a b c d e f zero l = a
by_six P a b c d e f (suc zero) l = b
by_six P a b c d e f (suc (suc zero)) l = c
by_six P a b c d e f (suc (suc (suc zero))) l = d
by_six P a b c d e f (suc (suc (suc (suc zero)))) l = e
by_six P a b c d e f (suc (suc (suc (suc (suc zero))))) l = f
by_six P a b c d e f (suc (suc (suc (suc (suc (suc i)))))) l = absurd (omega (arith, l))

weight_more : (bytes weights : List ℕ) (w k n : ℕ) → n ≡ k + 1 → k < length weights → w ≡ weight_from bytes k → AreWeightsTo bytes weights k → AreWeightsTo bytes (set weights k w) n
weight_more bytes weights w k n next within is are j l = one_more (weight_from bytes) weights 0 w k are within is j (omega (arith, l, next))

pub six_more : (bytes ws six : List ℕ) (k : ℕ) → k + 6 ≤ length ws → ((i : ℕ) → i < 6 → slice_index six i ≡ weight_from bytes (k + i)) → AreWeightsTo bytes ws k
    → AreWeightsTo bytes (set (set (set (set (set (set ws k (slice_index six 0)) (k + 1) (slice_index six 1)) (k + 2) (slice_index six 2)) (k + 3) (slice_index six 3)) (k + 4) (slice_index six 4)) (k + 5) (slice_index six 5)) (k + 6)
six_more bytes ws six k room is are =
    let here : k + 0 ≡ k = omega arith in
    let a = set ws k (slice_index six 0) in
    let b = set a (k + 1) (slice_index six 1) in
    let c = set b (k + 2) (slice_index six 2) in
    let d = set c (k + 3) (slice_index six 3) in
    let e = set d (k + 4) (slice_index six 4) in
    let la : length a ≡ length ws = length-set ws k (slice_index six 0) in
    let lb : length b ≡ length ws = length-set a (k + 1) (slice_index six 1) ∙ la in
    let lc : length c ≡ length ws = length-set b (k + 2) (slice_index six 2) ∙ lb in
    let ld : length d ≡ length ws = length-set c (k + 3) (slice_index six 3) ∙ lc in
    let le : length e ≡ length ws = length-set d (k + 4) (slice_index six 4) ∙ ld in
    weight_more bytes e (slice_index six 5) (k + 5) (k + 6) (omega arith) (omega (arith, room, le)) (is 5 (omega arith))
    (weight_more bytes d (slice_index six 4) (k + 4) (k + 5) (omega arith) (omega (arith, room, ld)) (is 4 (omega arith))
    (weight_more bytes c (slice_index six 3) (k + 3) (k + 4) (omega arith) (omega (arith, room, lc)) (is 3 (omega arith))
    (weight_more bytes b (slice_index six 2) (k + 2) (k + 3) (omega arith) (omega (arith, room, lb)) (is 2 (omega arith))
    (weight_more bytes a (slice_index six 1) (k + 1) (k + 2) (omega arith) (omega (arith, room, la)) (is 1 (omega arith))
    (weight_more bytes ws (slice_index six 0) k (k + 1) (omega arith) (omega (arith, room)) (is 0 (omega arith) ∙ ap (weight_from bytes) here) are)))))
