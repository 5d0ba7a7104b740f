-- The rows after one more symbol.
use Rattle.std.proofs.Common.{◌≡◌, ℕ, ◌+◌, ◌*◌, ◌%◌, ◌<◌, ◌≤◌, List, [], ◌∷◌, length, get_or, ◌++◌, ap, sym, ◌∙◌, subst, arith, inl, inr, length-append}
use Rattle.std.proofs.lemmas.List.{get_or_append_left, get_or-append-add}
use Rattle.std.proofs.lemmas.Bool.{cases_lt}
use Rattle.std.specs.Prelude.{pos}
use Rattle.qam_map.specs.declared.cell.Cell.{Cell}
use Rattle.tracking.specs.Tracking.{Symbol}
use Rattle.track_ring.specs.Ring.{RingState, Keeps, symbol_of}
use Rattle.track_ring.proofs.Rows.{new_row, other_row}
use borrow.Rule.Slice.PartMut.{put_mid}

abbrev no_symbol : Symbol
no_symbol = record { cells = []; weights = [] }

-- an earlier symbol, and the last one
earlier : (symbols : List Symbol) (x : Symbol) (t : ℕ) → t < length symbols → symbol_of symbols t ≡ symbol_of (symbols ++ x ∷ []) t
earlier symbols x t h = sym (get_or_append_left symbols (x ∷ []) no_symbol t h)

last : (symbols : List Symbol) (x : Symbol) (t : ℕ) → t ≡ length symbols → x ≡ symbol_of (symbols ++ x ∷ []) t
last symbols x t e =
    let at : t ≡ length symbols + 0 = omega (arith, e) in
    sym (ap (λ (z : ℕ). symbol_of (symbols ++ x ∷ []) z) at ∙ get_or-append-add symbols (x ∷ []) 0 no_symbol)

-- a row of each symbol, by what it has of it
pub one_more : {X : Type 0} (of : Symbol → List X) (d : X) (w count k : ℕ) (symbols : List Symbol) (x : Symbol) (rows : List X)
    → k ≡ w → length (of x) ≡ w → length rows ≡ 8 * w → count ≡ length symbols
    → ((t j : ℕ) → t < length symbols → length symbols ≤ t + 8 → j < w → get_or rows ((t % 8) * w + j) d ≡ get_or (of (symbol_of symbols t)) j d)
    → (t j : ℕ) → t < length (symbols ++ x ∷ []) → length (symbols ++ x ∷ []) ≤ t + 8 → j < w → get_or (put_mid ((count % 8) * w) k rows (of x)) ((t % 8) * w + j) d ≡ get_or (of (symbol_of (symbols ++ x ∷ []) t)) j d
one_more of d w count k symbols x rows ek long size number kept t j few late within =
    let all = length-append symbols (x ∷ []) in
    elim (cases_lt t (length symbols)) [
      | inl lt ↦
          let apart : t % 8 ≡ count % 8 → ⊥ = λ e. omega (arith, e, lt, late, all, number) in
          other_row w k (t % 8) (count % 8) j rows (of x) d ek long size (omega (arith)) (omega (arith)) apart within
          ∙ kept t j lt (omega (arith, late, all)) within ∙ ap (λ (z : Symbol). get_or (of z) j d) (earlier symbols x t lt)
      | inr ge ↦
          let e : t ≡ length symbols = omega (arith, ge, few, all) in
          let same : t % 8 ≡ count % 8 = ap (λ (z : ℕ). z % 8) (e ∙ sym number) in
          ap (λ (z : ℕ). get_or (put_mid ((count % 8) * w) k rows (of x)) (z * w + j) d) same
          ∙ new_row w k (count % 8) j rows (of x) d long size (omega (arith)) within ∙ ap (λ (z : Symbol). get_or (of z) j d) (last symbols x t e)
    ]

abbrev pub made : ℕ → List Cell → List ℕ → RingState
made count cells weights = record { count = count; cells = cells; weights = weights }

pub pushed : (w count k l : ℕ) (cells : List Cell) (weights : List ℕ) (x : Symbol) (symbols : List Symbol) → k ≡ w → l ≡ w → length x.cells ≡ w → length x.weights ≡ w → length cells ≡ 8 * w → length weights ≡ 8 * w
    → Keeps w (made count cells weights) symbols → Keeps w (made (count + 1) (put_mid ((count % 8) * w) k cells x.cells) (put_mid ((count % 8) * w) l weights x.weights)) (symbols ++ x ∷ [])
pushed w count k l cells weights x symbols ek el cells_long weights_long all_cells all_weights h =
    record {
      number = let all = length-append symbols (x ∷ []) in omega (arith, h.number, all);
      cells = one_more (λ (z : Symbol). z.cells) (record { re = pos 0; im = pos 0 }) w count k symbols x cells ek cells_long all_cells h.number h.cells;
      weights = one_more (λ (z : Symbol). z.weights) 0 w count l symbols x weights el weights_long all_weights h.number h.weights;
    }

-- the same lists
pub also : (w count : ℕ) (symbols : List Symbol) (cells other_cells : List Cell) (weights other_weights : List ℕ) → cells ≡ other_cells → weights ≡ other_weights → Keeps w (made count other_cells other_weights) symbols → Keeps w (made count cells weights) symbols
also w count symbols cells other_cells weights other_weights e f h =
    subst (λ (z : List Cell). Keeps w (made count z weights) symbols) (sym e) (subst (λ (z : List ℕ). Keeps w (made count other_cells z) symbols) (sym f) h)
