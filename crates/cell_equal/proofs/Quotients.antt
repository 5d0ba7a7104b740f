-- The steps of a division by the gain.
use Rattle.std.proofs.Common.{◌≡◌, ℕ, suc, ◌+◌, ◌*◌, ◌/◌, ◌^◌, ◌<◌, ◌≤◌, ap, sym, ◌∙◌, arith, subst, Bool, min, inl, inr}
use Rattle.std.specs.Prelude.{ℤ, pos, negsuc, ◌+ℤ◌, ◌-ℤ◌, ◌*ℤ◌, nat_abs, ◌==◌, if◌then◌else◌, ◌⊎◌, ◌-◌}
use Rattle.std.specs.Int.{int_max, int_min, saturate_to_bits}
use Rattle.std.proofs.lemmas.Int.{ints, clamps}
use Rattle.std.proofs.lemmas.Nat.{mul-le, le-div}
use Rattle.std.proofs.Math.Nat.{div-eq_of_lt-le, div-lt_iff_lt-mul}
use Rattle.std.proofs.lemmas.Bool.{ne_eqb, eq-eqb, cases_lt}
use Rattle.qam_map.specs.declared.cell.Cell.{Cell}
use Rattle.std.proofs.Math.IntN.{suc_ℤ-*ℤ}
use Rattle.cell_equal.specs.Equal.{blank, between, power, nearest, value_near, divided, weight_of, corrected}
use Rattle.cell_equal.specs.State.{IsSmall}
use Rattle.cell_equal.specs.declared.gain.Gain.{Gain}
use Rattle.cell_equal.specs.declared.equalised.Equalised.{Equalised}
use Rattle.spec_words.proofs.Sizes.{Below, self_below, plus_below, times_below}

pub squares_fit : (m n : ℕ) → m ≤ 393216 → n ≤ 393216 → m * m + n * n ≤ 2 ^ 39
squares_fit m n h k = omega (arith, mul-le m m 393216 393216 h h, mul-le n n 393216 393216 k k)

pub saturates : (z : ℤ) → int_max (negsuc 32767) (int_min z (pos 32767)) ≡ saturate_to_bits 15 z
saturates (pos n) = omega (arith, ints, clamps)
saturates (negsuc n) = omega (arith, ints, clamps)

pub held : (x z r : ℤ) (n : ℕ) → z ≡ nearest x n → r ≡ int_max (negsuc 32767) (int_min z (pos 32767)) → r ≡ value_near x n
held x z r n e er = er ∙ saturates z ∙ ap (saturate_to_bits 15) e

-- a quotient digit by digit
pub digits : (u p a b c d r s t v : ℕ) → 0 < u → a * u + r ≡ p → b * u + s ≡ r → c * u + t ≡ s → d * u + v ≡ t → v < u → p < 15 * u → a + b + c + d ≡ min 15 (p / u)
digits u p a b c d r s t v some ea eb ec ed small few =
    let q = a + b + c + d in
    let low : q * u ≤ p = omega (arith, ea, eb, ec, ed) in
    let high : p < (q + 1) * u = omega (arith, ea, eb, ec, ed, small) in
    let is : p / u ≡ q = div-eq_of_lt-le u low high in
    let less : p / u < 15 = (div-lt_iff_lt-mul some).1 few in
    omega (arith, is, less)

pub full : (u p : ℕ) → 0 < u → 15 * u ≤ p → 15 ≡ min 15 (p / u)
full u p some most = omega (arith, le-div 15 p u some most)

pub is_share : (g p u : ℕ) → 0 < u → g * u ≤ p → p - g * u < u → g ≡ p / u
is_share g p u some low lt = sym (div-eq_of_lt-le u low (omega (arith, lt)))

-- a quotient of what is limited is limited
pub limited : (p u : ℕ) → 0 < u → min p (15 * u) / u ≡ min 15 (p / u)
limited p u some = elim (cases_lt p (15 * u)) [
  | inl lt ↦
      let least : min p (15 * u) ≡ p = omega (arith, lt) in
      let less : p / u < 15 = (div-lt_iff_lt-mul some).1 lt in
      ap (λ (z : ℕ). z / u) least ∙ omega (arith, less)
  | inr ge ↦
      let most : min p (15 * u) ≡ 15 * u = omega (arith, ge) in
      let is : 15 * u / u ≡ 15 = div-eq_of_lt-le u (omega arith) (omega (arith, some)) in
      ap (λ (z : ℕ). z / u) most ∙ is ∙ full u p some ge
]

pub zero_power : (g : Gain) (c : Cell) (w p : ℕ) → p ≡ power g → p ≡ 0 → ◌≡◌ {A = Equalised} (record { cell = blank; weight = 0 }) (corrected g c w)
unfolding corrected
zero_power g c w p e z = ap (λ (t : Bool). if t then nothing else record { cell = divided g c; weight = if w == 0 then 0 else weight_of g }) (sym (eq-eqb (power g) 0 (sym e ∙ z)))
  where
    nothing : Equalised
    nothing = record { cell = blank; weight = 0 }

some_power : (g : Gain) (c : Cell) (w : ℕ) → (power g ≡ 0 → ⊥) → ◌≡◌ {A = Equalised} (record { cell = divided g c; weight = if w == 0 then 0 else weight_of g }) (corrected g c w)
unfolding corrected
some_power g c w some = ap (λ (t : Bool). if t then nothing else record { cell = divided g c; weight = if w == 0 then 0 else weight_of g }) (sym (ne_eqb (power g) 0 some))
  where
    nothing : Equalised
    nothing = record { cell = blank; weight = 0 }

pub with_weight : (g : Gain) (c d : Cell) (w p v : ℕ) → p ≡ power g → (p ≡ 0 → ⊥) → d ≡ divided g c → v ≡ (if w == 0 then 0 else min 15 (16 * p / (21845 * g.span) ^ 2)) → ◌≡◌ {A = Equalised} (record { cell = d; weight = v }) (corrected g c w)
with_weight g c d w p v ep some ed ev =
    let weight_is : v ≡ (if w == 0 then 0 else weight_of g) = ev ∙ ap (λ (n : ℕ). if w == 0 then 0 else min 15 (16 * n / (21845 * g.span) ^ 2)) ep in
    ap (λ (z : Cell). made z v) ed ∙ ap (made (divided g c)) weight_is ∙ some_power g c w (λ z. some (ep ∙ z))
  where
    made : Cell → ℕ → Equalised
    made d v = record { cell = d; weight = v }

pub is_divided : (g : Gain) (c : Cell) (p : ℕ) (along across re im : ℤ) → p ≡ power g → re ≡ value_near (pos (21845 * g.span) *ℤ along) p → im ≡ value_near (pos (21845 * g.span) *ℤ across) p
    → along ≡ c.re *ℤ g.re +ℤ c.im *ℤ g.im → across ≡ c.im *ℤ g.re -ℤ c.re *ℤ g.im → ◌≡◌ {A = Cell} (record { re = re; im = im }) (divided g c)
is_divided g c p along across re im ep er ei ea eb =
    let scale = pos (21845 * g.span) in
    let re_is : re ≡ (divided g c).re = er ∙ ap (λ (z : ℤ). value_near (scale *ℤ z) p) ea ∙ ap (value_near (scale *ℤ (c.re *ℤ g.re +ℤ c.im *ℤ g.im))) ep in
    let im_is : im ≡ (divided g c).im = ei ∙ ap (λ (z : ℤ). value_near (scale *ℤ z) p) eb ∙ ap (value_near (scale *ℤ (c.im *ℤ g.re -ℤ c.re *ℤ g.im))) ep in
    ap (λ (z : ℤ). made z im) re_is ∙ ap (made (divided g c).re) im_is
  where
    made : ℤ → ℤ → Cell
    made x y = record { re = x; im = y }

-- a part of a gain on the line between two pilots
pub on_line : (a b : ℕ) (x y : ℤ) → nat_abs x ≤ 32768 → nat_abs y ≤ 32768 → nat_abs (pos b *ℤ x +ℤ pos a *ℤ y) ≤ 32768 * (a + b)
on_line a b x y h k =
    let x_below : Below x 32768 = record { below = h } in
    let y_below : Below y 32768 = record { below = k } in
    let all = plus_below (times_below (self_below (pos b)) x_below) (times_below (self_below (pos a)) y_below) in
    omega (arith, all.below)

pub small_between : (l r : Gain) (a b : ℕ) → IsSmall l → l.span ≡ 1 → IsSmall r → r.span ≡ 1 → 1 ≤ a + b → a + b ≤ 12 → IsSmall (between l r a b)
small_between l r a b hl el hr er some few = record {
  re = on_line a b l.re r.re (omega (arith, hl.re, el)) (omega (arith, hr.re, er));
  im = on_line a b l.im r.im (omega (arith, hl.im, el)) (omega (arith, hr.im, er));
  some = some;
  span = few;
}

one_more : (n : ℕ) → n + 1 ≡ suc n
one_more n = omega arith

-- one carrier further on the line
pub further : (a b : ℕ) (x y z w : ℤ) → z ≡ pos (b + 1) *ℤ x +ℤ pos a *ℤ y → w ≡ z +ℤ (y -ℤ x) → w ≡ pos b *ℤ x +ℤ pos (a + 1) *ℤ y
further a b x y z w ez ew =
    let p : pos (b + 1) *ℤ x ≡ pos b *ℤ x +ℤ x = ap (λ (z : ℕ). pos z *ℤ x) (one_more b) ∙ suc_ℤ-*ℤ (pos b) x in
    let q : pos (a + 1) *ℤ y ≡ pos a *ℤ y +ℤ y = ap (λ (z : ℕ). pos z *ℤ y) (one_more a) ∙ suc_ℤ-*ℤ (pos a) y in
    omega (arith, ints, p, q, ez, ew)

pub next_between : (l r g : Gain) (a b : ℕ) (re im : ℤ) → g ≡ between l r a (b + 1) → re ≡ g.re +ℤ (r.re -ℤ l.re) → im ≡ g.im +ℤ (r.im -ℤ l.im)
    → ◌≡◌ {A = Gain} (record { re = re; im = im; span = g.span }) (between l r (a + 1) b)
next_between l r g a b re im e er ei =
    let re_is : re ≡ (between l r (a + 1) b).re = further a b l.re r.re g.re re (ap (λ (z : Gain). z.re) e) er in
    let im_is : im ≡ (between l r (a + 1) b).im = further a b l.im r.im g.im im (ap (λ (z : Gain). z.im) e) ei in
    let span_is : g.span ≡ a + 1 + b = ap (λ (z : Gain). z.span) e ∙ omega arith in
    ap (λ (z : ℤ). made z im g.span) re_is ∙ ap (λ (z : ℤ). made (between l r (a + 1) b).re z g.span) im_is ∙ ap (made (between l r (a + 1) b).re (between l r (a + 1) b).im) span_is
  where
    made : ℤ → ℤ → ℕ → Gain
    made x y n = record { re = x; im = y; span = n }
