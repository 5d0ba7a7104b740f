-- The rows after one more symbol.
use Rattle.std.proofs.Common.{◌≡◌, ℕ, ◌+◌, ◌*◌, ◌%◌, ◌<◌, ◌≤◌, List, [], ◌∷◌, length, get_or, ◌++◌, ap, sym, ◌∙◌, arith, inl, inr, length-append}
use Rattle.std.proofs.lemmas.List.{get_or_append_left, get_or-append-add}
use Rattle.std.proofs.lemmas.Bool.{cases_lt}
use Rattle.mode_set.specs.declared.modes.Mode.{Mode}
use Rattle.qam_map.specs.declared.cell.Cell.{Cell}
use Rattle.tracking.specs.Comb.{comb_of, points, pilot}
use Rattle.track_arithmetic.specs.Numbers.{nothing}
use Rattle.track_arithmetic.specs.declared.complex.Complex.{Complex}
use Rattle.track_pilots.specs.Window.{WindowState, StandsFor}
use Rattle.track_pilots.proofs.Rows.{new_row, other_row}
use borrow.Rule.Slice.PartMut.{put_mid}

-- an earlier symbol, and the last one
earlier : (m : Mode) (symbols : List (List Cell)) (cells : List Cell) (t j : ℕ) → t < length symbols → (comb_of m symbols).value t j ≡ (comb_of m (symbols ++ cells ∷ [])).value t j
unfolding comb_of
earlier m symbols cells t j h = ap (λ (z : List Cell). pilot z j) (sym (get_or_append_left symbols (cells ∷ []) [] t h))

last : (m : Mode) (symbols : List (List Cell)) (cells : List Cell) (t j : ℕ) → t ≡ length symbols → pilot cells j ≡ (comb_of m (symbols ++ cells ∷ [])).value t j
unfolding comb_of
last m symbols cells t j e =
    let at : t ≡ length symbols + 0 = omega (arith, e) in
    ap (λ (z : List Cell). pilot z j) (sym (ap (λ (z : ℕ). get_or (symbols ++ cells ∷ []) z []) at ∙ get_or-append-add symbols (cells ∷ []) 0 []))

pub one_more : (m : Mode) (w : WindowState) (symbols : List (List Cell)) (cells : List Cell) (row : List Complex) (k : ℕ) → k ≡ points m → length row ≡ points m → length w.rows ≡ 16 * points m
    → ((j : ℕ) → j < points m → get_or row j nothing ≡ pilot cells j) → StandsFor m w symbols
    → StandsFor m (record { count = w.count + 1; rows = put_mid ((w.count % 16) * points m) k w.rows row }) (symbols ++ cells ∷ [])
one_more m w symbols cells row k ek long rows is h =
    let all = length-append symbols (cells ∷ []) in
    record {
      number = omega (arith, h.number, all);
      kept = λ t j few late within. elim (cases_lt t (length symbols)) [
        | inl lt ↦
            let apart : t % 16 ≡ w.count % 16 → ⊥ = λ e. omega (arith, e, lt, late, all, h.number) in
            other_row (points m) k (t % 16) (w.count % 16) j w.rows row nothing ek long rows (omega arith) (omega arith) apart within
            ∙ h.kept t j lt (omega (arith, late, all)) within ∙ earlier m symbols cells t j lt
        | inr ge ↦
            let e : t ≡ length symbols = omega (arith, ge, few, all) in
            let same : t % 16 ≡ w.count % 16 = ap (λ (z : ℕ). z % 16) (e ∙ sym h.number) in
            ap (λ (z : ℕ). get_or (put_mid ((w.count % 16) * points m) k w.rows row) (z * points m + j) nothing) same
            ∙ new_row (points m) k (w.count % 16) j w.rows row nothing long rows (omega arith) within ∙ is j within ∙ last m symbols cells t j e
      ];
    }
