-- A row of values that takes the place of another.
use Rattle.std.proofs.Common.{◌≡◌, ℕ, ◌+◌, ◌-◌, ◌*◌, ◌%◌, ◌<◌, ◌≤◌, List, [], ◌∷◌, length, take, drop, get_or, ◌++◌, ap, sym, ◌∙◌, arith, inl, inr, length-append}
use Rattle.std.proofs.lemmas.List.{get_or_append_left, get_or-append_right, get_or-append-add, get_or-take, get_or-drop, length-take-le}
use Rattle.std.proofs.lemmas.Nat.{mul-add-lt, row_fits}
use Rattle.std.proofs.lemmas.Bool.{cases_lt}
use borrow.Rule.Slice.PartMut.{put_mid}

below : {X : Type 0} (a k : ℕ) (xs ys : List X) (i : ℕ) (d : X) → i < a → a ≤ length xs → get_or (put_mid a k xs ys) i d ≡ get_or xs i d
below a k xs ys i d h fits = let l = length-take-le a xs fits in get_or_append_left (take a xs) _ d i (omega (arith, h, l)) ∙ get_or-take a xs i d h

inside : {X : Type 0} (a k : ℕ) (xs ys : List X) (i : ℕ) (d : X) → i < length ys → a ≤ length xs → get_or (put_mid a k xs ys) (a + i) d ≡ get_or ys i d
inside a k xs ys i d h fits = get_or-append_right (take a xs) _ a (a + i) d (length-take-le a xs fits) (omega arith) ∙ ap (λ (z : ℕ). get_or (ys ++ drop k (drop a xs)) z d) (omega arith) ∙ get_or_append_left ys _ d i h

above : {X : Type 0} (a k : ℕ) (xs ys : List X) (i : ℕ) (d : X) → length ys ≡ k → a ≤ length xs → get_or (put_mid a k xs ys) (a + (k + i)) d ≡ get_or xs (a + (k + i)) d
above a k xs ys i d long fits =
    get_or-append_right (take a xs) _ a (a + (k + i)) d (length-take-le a xs fits) (omega arith)
    ∙ ap (λ (z : ℕ). get_or (ys ++ drop k (drop a xs)) z d) (omega arith)
    ∙ get_or-append_right ys (drop k (drop a xs)) k (k + i) d long (omega arith)
    ∙ ap (λ (z : ℕ). get_or (drop k (drop a xs)) z d) (omega arith)
    ∙ get_or-drop k (drop a xs) i d ∙ get_or-drop a xs (k + i) d

-- the new row ..
pub new_row : {X : Type 0} (w k t place : ℕ) (xs ys : List X) (d : X) → length ys ≡ w → length xs ≡ 8 * w → t < 8 → place < w → get_or (put_mid (t * w) k xs ys) (t * w + place) d ≡ get_or ys place d
new_row w k t place xs ys d long rows ht within =
    let fits : t * w ≤ length xs = let f = row_fits t w 8 w ht (omega arith) in omega (arith, f, rows) in
    inside (t * w) k xs ys place d (omega (arith, within, long)) fits

-- .. and another one, which stays
pub other_row : {X : Type 0} (w k r t place : ℕ) (xs ys : List X) (d : X) → k ≡ w → length ys ≡ w → length xs ≡ 8 * w → r < 8 → t < 8 → (r ≡ t → ⊥) → place < w → get_or (put_mid (t * w) k xs ys) (r * w + place) d ≡ get_or xs (r * w + place) d
other_row w k r t place xs ys d ek long rows hr ht apart within =
    let fits : t * w ≤ length xs = let f = row_fits t w 8 w ht (omega arith) in omega (arith, f, rows) in
    elim (cases_lt r t) [
      | inl lt ↦ below (t * w) k xs ys (r * w + place) d (let f = mul-add-lt r w place t lt within in omega (arith, f)) fits
      | inr ge ↦
          let gt : t < r = omega (arith, ge, apart) in
          let f = row_fits t w r w gt (omega arith) in
          let i = r * w + place - (t * w + w) in
          let e : r * w + place ≡ t * w + (k + i) = omega (arith, f, ek) in
          ap (λ (z : ℕ). get_or (put_mid (t * w) k xs ys) z d) e ∙ above (t * w) k xs ys i d (long ∙ sym ek) fits ∙ ap (λ (z : ℕ). get_or xs z d) (sym e)
    ]
