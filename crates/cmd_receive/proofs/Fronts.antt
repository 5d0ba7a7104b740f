-- The lines of a report in order, and a prefix of them.
use Rattle.std.proofs.Common.{◌≡◌, ℕ, zero, suc, ◌+◌, List, [], ◌∷◌, ◌++◌, length, take, Some, ◌∙◌, sym, ap, append_assoc}
use Rattle.std.specs.Prelude.{slice_get}
use Rattle.std.specs.List.{concat}
use Rattle.std.proofs.lemmas.List.{append-nil}
use Rattle.std.proofs.Math.Seq.{take-append-add}
use Rattle.cmd_cells.proofs.Fronts.{front_of}

-- the lines before one, and that line
pub line_more : (lines : List (List ℕ)) (n : ℕ) (x : List ℕ) → slice_get lines n ≡ Some x → concat (take (suc n) lines) ≡ concat (take n lines) ++ x
line_more [] n x e = cc
line_more (y ∷ ys) zero x e = append-nil y ∙ (let e' : y ≡ x = cc in e')
line_more (y ∷ ys) (suc n) x e = ap (λ (l : List ℕ). y ++ l) (line_more ys n x e) ∙ sym (append_assoc y (concat (take n ys)) x)

line_splits : (lines : List (List ℕ)) (n : ℕ) (x : List ℕ) → slice_get lines n ≡ Some x → (rest : List ℕ) × (concat lines ≡ concat (take n lines) ++ (x ++ rest))
line_splits [] n x e = cc
line_splits (y ∷ ys) zero x e = (concat ys, ap (λ (l : List ℕ). l ++ concat ys) (let e' : y ≡ x = cc in e'))
line_splits (y ∷ ys) (suc n) x e =
    let s = line_splits ys n x e in
    (s.0, ap (λ (l : List ℕ). y ++ l) s.1 ∙ sym (append_assoc y (concat (take n ys)) (x ++ s.0)))

-- the lines before one, and a prefix of that line, are a prefix of all
pub line_front : (lines : List (List ℕ)) (n : ℕ) (x before after : List ℕ) (k : ℕ) → slice_get lines n ≡ Some x → after ≡ (before ++ concat (take n lines)) ++ take k x
    → (j : ℕ) × (after ≡ before ++ take j (concat lines))
line_front lines n x before after k e p =
    let s = line_splits lines n x e in
    let f = front_of x s.0 k in
    let first = concat (take n lines) in (
      length first + f.0,
      p ∙ append_assoc before first (take k x) ∙ ap (λ (l : List ℕ). before ++ (first ++ l)) f.1
          ∙ ap (λ (l : List ℕ). before ++ l) (sym (take-append-add first (x ++ s.0) f.0) ∙ ap (λ (l : List ℕ). take (length first + f.0) l) (sym s.1)),
    )
