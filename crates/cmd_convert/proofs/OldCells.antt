-- Old cells in order, and their upgrade.
use Rattle.std.proofs.Common.{◌≡◌, ℕ, zero, suc, ◌+◌, ◌*◌, ◌<◌, ◌≤◌, List, [], ◌∷◌, ◌++◌, length, take, drop, refl, ◌∙◌, sym, ap, arith, append_assoc}
use Rattle.std.specs.Prelude.{flat_map}
use Rattle.std.proofs.lemmas.List.{append-nil, drop-append-le, take-append-le, length-drop, length-take-le, length-append}
use Rattle.std.proofs.lemmas.List.Concat.{flat_map-append}
use Rattle.std.proofs.Math.Seq.{drop-append-add}
use Rattle.std.proofs.lemmas.Slice.{take-put_mid}
use borrow.Rule.Slice.PartMut.{put_mid, mid_of, same_len_mid}
use Rattle.spec_words.specs.Words.{numbers}
use Rattle.spec_words.proofs.Counting.{numbers_end}
use Rattle.soft_metric.specs.Weights.{full_weight}
use Rattle.law_link.specs.OldCells.{old_cell, upgraded_cell, upgraded_cells}

pub no_cells : (bytes : List ℕ) → upgraded_cells 0 bytes ≡ []
unfolding upgraded_cells numbers
no_cells bytes = refl

-- one more cell
pub one_cell : (n : ℕ) (bytes : List ℕ) → upgraded_cells (n + 1) bytes ≡ upgraded_cells n bytes ++ upgraded_cell bytes n
unfolding upgraded_cells
one_cell n bytes =
    ap (flat_map (upgraded_cell bytes)) (numbers_end n)
    ∙ flat_map-append (upgraded_cell bytes) (numbers n) (n ∷ [])
    ∙ ap (λ (l : List ℕ). flat_map (upgraded_cell bytes) (numbers n) ++ l) (append-nil (upgraded_cell bytes n))

-- a cell of a prefix, and one of the bytes after it
cell_before : (bytes more : List ℕ) (k : ℕ) → 4 * k + 4 ≤ length bytes → upgraded_cell (bytes ++ more) k ≡ upgraded_cell bytes k
cell_before bytes more k l =
    let long = length-drop (4 * k) bytes in
    ap (λ (c : List ℕ). c ++ full_weight ∷ [])
    (ap (take 4) (drop-append-le (4 * k) bytes more (omega (arith, l))) ∙ take-append-le 4 (drop (4 * k) bytes) more (omega (arith, l, long)))

cell_behind : (bytes more : List ℕ) (n k : ℕ) → length bytes ≡ 4 * n → upgraded_cell (bytes ++ more) (n + k) ≡ upgraded_cell more k
cell_behind bytes more n k l =
    let place : 4 * (n + k) ≡ length bytes + 4 * k = omega (arith, l) in
    ap (λ (c : List ℕ). take 4 c ++ full_weight ∷ []) (ap (λ (z : ℕ). drop z (bytes ++ more)) place ∙ drop-append-add bytes more (4 * k))

-- the cells of a prefix
pub cells_before : (bytes more : List ℕ) (n : ℕ) → 4 * n ≤ length bytes → upgraded_cells n (bytes ++ more) ≡ upgraded_cells n bytes
cells_before bytes more zero l = no_cells (bytes ++ more) ∙ sym (no_cells bytes)
cells_before bytes more (suc n) l =
    let next : suc n ≡ n + 1 = omega arith in
    ap (λ (z : ℕ). upgraded_cells z (bytes ++ more)) next
    ∙ one_cell n (bytes ++ more)
    ∙ ap (λ (c : List ℕ). c ++ upgraded_cell (bytes ++ more) n) (cells_before bytes more n (omega (arith, l)))
    ∙ ap (λ (c : List ℕ). upgraded_cells n bytes ++ c) (cell_before bytes more n (omega (arith, l)))
    ∙ sym (one_cell n bytes)
    ∙ ap (λ (z : ℕ). upgraded_cells z bytes) (sym next)

-- the cells of a prefix of whole cells, and those of the bytes after it
pub cells_behind : (bytes more : List ℕ) (n k : ℕ) → length bytes ≡ 4 * n → upgraded_cells (n + k) (bytes ++ more) ≡ upgraded_cells n bytes ++ upgraded_cells k more
cells_behind bytes more n zero l =
    let none : n + 0 ≡ n = omega arith in
    ap (λ (z : ℕ). upgraded_cells z (bytes ++ more)) none
    ∙ cells_before bytes more n (omega (arith, l))
    ∙ sym (append-nil (upgraded_cells n bytes))
    ∙ ap (λ (c : List ℕ). upgraded_cells n bytes ++ c) (sym (no_cells more))
cells_behind bytes more n (suc k) l =
    let next : n + suc k ≡ n + k + 1 = omega arith in
    let last : suc k ≡ k + 1 = omega arith in
    ap (λ (z : ℕ). upgraded_cells z (bytes ++ more)) next
    ∙ one_cell (n + k) (bytes ++ more)
    ∙ ap (λ (c : List ℕ). c ++ upgraded_cell (bytes ++ more) (n + k)) (cells_behind bytes more n k l)
    ∙ ap (λ (c : List ℕ). (upgraded_cells n bytes ++ upgraded_cells k more) ++ c) (cell_behind bytes more n k l)
    ∙ append_assoc (upgraded_cells n bytes) (upgraded_cells k more) (upgraded_cell more k)
    ∙ ap (λ (c : List ℕ). upgraded_cells n bytes ++ c) (sym (one_cell k more))
    ∙ ap (λ (z : ℕ). upgraded_cells n bytes ++ upgraded_cells z more) (sym last)

-- a space that begins with n new cells, after one more was written
pub put_one : (bytes room cell : List ℕ) (n count four five : ℕ) → n < count → length bytes ≡ 4 * count → length room ≡ 5 * count → four ≡ 4 → five ≡ 5
    → take (5 * n) room ≡ upgraded_cells n bytes → cell ≡ take four (drop (4 * n) bytes) ++ full_weight ∷ []
    → (length (put_mid (5 * n) five room cell) ≡ 5 * count) × (take (5 * (n + 1)) (put_mid (5 * n) five room cell) ≡ upgraded_cells (n + 1) bytes)
put_one bytes room cell n count four five few old_long long is_four is_five was is =
    let cell_is : cell ≡ upgraded_cell bytes n = is ∙ ap (λ (z : ℕ). take z (drop (4 * n) bytes) ++ full_weight ∷ []) is_four in
    let left = length-drop (4 * n) bytes in
    let taken : length (old_cell bytes n) ≡ 4 = length-take-le 4 (drop (4 * n) bytes) (omega (arith, left, old_long, few)) in
    let size : length cell ≡ 5 = ap length cell_is ∙ length-append (old_cell bytes n) (full_weight ∷ []) ∙ (omega (arith, taken)) in
    let room_left = length-drop (5 * n) room in
    let part : length (mid_of (5 * n) five room) ≡ five = length-take-le five (drop (5 * n) room) (omega (arith, room_left, long, few, is_five)) in (
      same_len_mid (5 * n) five room cell (size ∙ sym is_five ∙ sym part) ∙ long,
      take-put_mid (5 * n) five room cell (5 * (n + 1)) (omega (arith, size)) (omega (arith, long, few))
          ∙ ap (λ (l : List ℕ). l ++ cell) was
          ∙ ap (λ (c : List ℕ). upgraded_cells n bytes ++ c) cell_is
          ∙ sym (one_cell n bytes),
    )
