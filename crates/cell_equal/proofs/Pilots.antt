-- A pilot divided by its own gain.
use Rattle.std.proofs.Common.{◌≡◌, ℕ, zero, suc, ◌+◌, ◌*◌, ◌^◌, ◌<◌, refl, ap, sym, ◌∙◌, arith, Bool, true, false, rules}
use Rattle.std.specs.Prelude.{ℤ, pos, negsuc, neg_ℤ, ◌+ℤ◌, ◌-ℤ◌, ◌*ℤ◌, nat_abs}
use Rattle.std.specs.Int.{w16}
use Rattle.std.specs.Int.RustNames.{FitsSigned}
use Rattle.std.proofs.lemmas.Int.{ints}
use Rattle.std.proofs.Math.IntN.{*ℤ_comm, zero-*ℤ, *ℤ-zero, *ℤ-negsuc, neg_ℤ-neg_ℤ, pos-*ℤ-pos, pos-*ℤ-negsuc, negsuc-*ℤ-pos, negsuc-*ℤ-negsuc}
use borrow.Author.Differences.{product_is}
use Rattle.qam_map.specs.declared.cell.Cell.{Cell}
use Rattle.cell_equal.specs.Equal.{unturned, power, value_near, divided}
use Rattle.cell_equal.specs.declared.gain.Gain.{Gain}
use Rattle.cell_equal.proofs.Nearest.{whole_value}
use Rattle.cell_equal.proofs.Quotients.{is_divided}

square : (n : ℕ) → n * n ≡ n ^ 2
square n = search rules

-- the product with an opposite
times_neg : (x y : ℤ) → x *ℤ neg_ℤ y ≡ neg_ℤ (x *ℤ y)
times_neg x (pos zero) = *ℤ-zero x ∙ ap (λ (z : ℤ). neg_ℤ z) (sym (*ℤ-zero x))
times_neg x (pos (suc n)) = *ℤ-negsuc x n
times_neg x (negsuc n) = sym (ap (λ (z : ℤ). neg_ℤ z) (*ℤ-negsuc x n) ∙ neg_ℤ-neg_ℤ (x *ℤ pos (suc n)))

-- a value times itself or its opposite
own_square : (o : Bool) (x : ℤ) → x *ℤ unturned o x ≡ unturned o (pos (nat_abs (unturned o x) ^ 2))
own_square false (pos n) = pos-*ℤ-pos n n ∙ ap pos (square n)
own_square false (negsuc n) = negsuc-*ℤ-negsuc n n ∙ ap pos (square (suc n))
own_square true (pos zero) = refl
own_square true (pos (suc n)) = pos-*ℤ-negsuc (suc n) n ∙ ap (λ (z : ℕ). neg_ℤ (pos z)) (square (suc n))
own_square true (negsuc n) = negsuc-*ℤ-pos n (suc n) ∙ ap (λ (z : ℕ). neg_ℤ (pos z)) (square (suc n))

both : (o : Bool) (m n : ℕ) → unturned o (pos m) +ℤ unturned o (pos n) ≡ unturned o (pos (m + n))
both false m n = omega (arith, ints)
both true m n = omega (arith, ints)

along_pilot : (o : Bool) (x y : ℤ) → x *ℤ unturned o x +ℤ y *ℤ unturned o y ≡ unturned o (pos (nat_abs (unturned o x) ^ 2 + nat_abs (unturned o y) ^ 2))
along_pilot o x y = ap (λ (z : ℤ). z +ℤ y *ℤ unturned o y) (own_square o x) ∙ ap (λ (z : ℤ). unturned o (pos (nat_abs (unturned o x) ^ 2)) +ℤ z) (own_square o y) ∙ both o _ _

across_pilot : (o : Bool) (x y : ℤ) → y *ℤ unturned o x -ℤ x *ℤ unturned o y ≡ pos 0
across_pilot false x y = let e = *ℤ_comm y x in omega (arith, ints, e)
across_pilot true x y = let p = times_neg y x in let q = times_neg x y in let e = *ℤ_comm y x in omega (arith, ints, p, q, e)

scaled_pilot : (o : Bool) (n : ℕ) → pos 21845 *ℤ unturned o (pos n) ≡ unturned o (pos 21845) *ℤ pos n
scaled_pilot false n = refl
scaled_pilot true n = omega (arith, ints, product_is (pos 21845) (neg_ℤ (pos n)), product_is (neg_ℤ (pos 21845)) (pos n))

fits : (o : Bool) → FitsSigned w16 (unturned o (pos 21845))
fits false = omega (arith, ints)
fits true = omega (arith, ints)

none_fits : FitsSigned w16 (pos 0)
none_fits = omega (arith, ints)

-- for a gain that is the pilot as received, or its opposite
pub pilot_divided : (o : Bool) (g : Gain) (c : Cell) (p : ℕ) (re im : ℤ) → g.span ≡ 1 → g.re ≡ unturned o c.re → g.im ≡ unturned o c.im → p ≡ power g → (p ≡ 0 → ⊥) → re ≡ unturned o (pos 21845) → im ≡ pos 0
    → ◌≡◌ {A = Cell} (record { re = re; im = im }) (divided g c)
pilot_divided o g c p re im one eu ev ep some er ei =
    let n : ℕ = power g in
    let positive : 0 < n = omega (arith, ep, some) in
    let scale : pos (21845 * g.span) ≡ pos 21845 = ap (λ (z : ℕ). pos (21845 * z)) one in
    let along : c.re *ℤ g.re +ℤ c.im *ℤ g.im ≡ unturned o (pos n) =
    ap (λ (z : ℤ). c.re *ℤ z +ℤ c.im *ℤ g.im) eu ∙ ap (λ (z : ℤ). c.re *ℤ unturned o c.re +ℤ c.im *ℤ z) ev ∙ along_pilot o c.re c.im
    ∙ ap (λ (z : ℤ). unturned o (pos (nat_abs z ^ 2 + nat_abs (unturned o c.im) ^ 2))) (sym eu) ∙ ap (λ (z : ℤ). unturned o (pos (nat_abs g.re ^ 2 + nat_abs z ^ 2))) (sym ev) in
    let across : c.im *ℤ g.re -ℤ c.re *ℤ g.im ≡ pos 0 =
    ap (λ (z : ℤ). c.im *ℤ z -ℤ c.re *ℤ g.im) eu ∙ ap (λ (z : ℤ). c.im *ℤ unturned o c.re -ℤ c.re *ℤ z) ev ∙ across_pilot o c.re c.im in
    let x : pos (21845 * g.span) *ℤ (c.re *ℤ g.re +ℤ c.im *ℤ g.im) ≡ unturned o (pos 21845) *ℤ pos n =
    ap (λ (z : ℤ). z *ℤ (c.re *ℤ g.re +ℤ c.im *ℤ g.im)) scale ∙ ap (λ (z : ℤ). pos 21845 *ℤ z) along ∙ scaled_pilot o n in
    let y : pos (21845 * g.span) *ℤ (c.im *ℤ g.re -ℤ c.re *ℤ g.im) ≡ pos 0 *ℤ pos n =
    ap (λ (z : ℤ). pos (21845 * g.span) *ℤ z) across ∙ *ℤ-zero (pos (21845 * g.span)) ∙ sym (zero-*ℤ (pos n)) in
    is_divided g c n (c.re *ℤ g.re +ℤ c.im *ℤ g.im) (c.im *ℤ g.re -ℤ c.re *ℤ g.im) re im refl (er ∙ sym (whole_value _ (unturned o (pos 21845)) n (fits o) positive x)) (ei ∙ sym (whole_value _ (pos 0) n none_fits positive y)) refl refl
