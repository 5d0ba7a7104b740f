-- The sum of two symbols' products, one by one.
use Rattle.std.proofs.Common.{◌≡◌, ℕ, suc, ◌+◌, ◌<◌, List, [], ◌∷◌, drop, length, get_or, refl, sym, ap, ◌∙◌, arith, ℤ, pos, ◌+ℤ◌, ◌*ℤ◌, Bool, true, false}
use Rattle.std.specs.Bool.{beq}
use lib.Pointwise.{pointwise}
use Rattle.std.proofs.lemmas.Int.{ints}
use Rattle.std.proofs.Math.Seq.{drop-cons}
use Rattle.qam_map.specs.declared.cell.Cell.{Cell}
use Rattle.tps_word.specs.Vote.{agreement}

pub one_more : (before now : List Cell) (i : ℕ) (d e : Cell) (sum corr whole : ℤ) → i < length before → i < length now
    → corr ≡ (get_or before i d).re *ℤ (get_or now i e).re +ℤ (get_or before i d).im *ℤ (get_or now i e).im
    → sum +ℤ agreement (drop i before) (drop i now) ≡ whole → sum +ℤ corr +ℤ agreement (drop (i + 1) before) (drop (i + 1) now) ≡ whole
one_more before now i d e sum corr whole l m is h =
    let next : i + 1 ≡ suc i = omega arith in
    let rest : ℤ = agreement (drop (suc i) before) (drop (suc i) now) in
    let here : agreement (drop i before) (drop i now) ≡ corr +ℤ rest =
    ap (λ (z : List Cell). agreement z (drop i now)) (drop-cons before i d l) ∙ ap (agreement (get_or before i d ∷ drop (suc i) before)) (drop-cons now i e m) ∙ ap (λ (z : ℤ). z +ℤ rest) (sym is) in
    ap (λ (z : ℕ). sum +ℤ corr +ℤ agreement (drop z before) (drop z now)) next ∙ omega (arith, ints, ap (λ (z : ℤ). sum +ℤ z) here, h)

pub none_left : (before now : List Cell) → length before ≡ 0 → agreement before now ≡ pos 0
none_left [] now e = refl
none_left (a ∷ before) now e = absurd (omega (arith, e))

-- bits that are equal one by one
pub equal : (v w : List Bool) → pointwise beq v w ≡ true → v ≡ w
equal [] [] e = refl
equal [] (b ∷ w) e = cc
equal (a ∷ v) [] e = cc
equal (true ∷ v) (true ∷ w) e = ap (λ (z : List Bool). true ∷ z) (equal v w e)
equal (true ∷ v) (false ∷ w) e = cc
equal (false ∷ v) (true ∷ w) e = cc
equal (false ∷ v) (false ∷ w) e = ap (λ (z : List Bool). false ∷ z) (equal v w e)

itself : (v : List Bool) → pointwise beq v v ≡ true
itself [] = refl
itself (true ∷ v) = itself v
itself (false ∷ v) = itself v

pub same_as_itself : (v w : List Bool) → v ≡ w → pointwise beq v w ≡ true
same_as_itself v w e = ap (pointwise beq v) (sym e) ∙ itself v

pub differ : false ≡ true → ⊥
differ e = cc
