-- A value that is nearer to a level than half the least distance of two is decided as that level.
use Rattle.std.proofs.Common.{◌≡◌, ℕ, zero, suc, ◌+◌, ◌*◌, ◌/◌, ◌<◌, ◌≤◌, Bool, true, false, ◌&&◌, List, [], ◌∷◌, get_or, take, refl, sym, ap, ap₂, ◌∙◌, subst, arith}
use Rattle.std.specs.Prelude.{ℤ, pos, negsuc, neg_ℤ, nat_lt, nat_le, find}
use Rattle.std.specs.Bool.{beq}
use Rattle.std.specs.Option.{option_map_or}
use lib.Pointwise.{pointwise}
use Rattle.std.proofs.lemmas.Int.{ints}
use Rattle.std.proofs.lemmas.Bool.{lt-ltb, le-ltb, le-leb, lt-leb}
use Rattle.spec_words.specs.Bits.{is_set}
use Rattle.spec_words.specs.Words.{numbers}
use Rattle.mode_set.specs.StreamTable.{label_bits}
use Rattle.mode_set.specs.declared.modes.Shape.{Shape}
use Rattle.mode_set.specs.declared.modes.Shape.TheVariants.{Qpsk, Qam16, Qam64}
use Rattle.mode_set.specs.declared.modes.Hierarchy.{Hierarchy}
use Rattle.mode_set.specs.declared.modes.Hierarchy.TheVariants.{Flat, Alpha1, Alpha2, Alpha4}
use Rattle.qam_map.specs.Points.{Point, distance, map_cell, spacing, value_of, real_bits, imaginary_bits}
use Rattle.qam_map.specs.declared.cell.Cell.{Cell}
use Rattle.hard_decision.specs.Hard.{axis_bit, hard_bit}
use Rattle.hard_decision.proofs.Nearest.{axis1, axis2, axis4, bits_are, is_negative, tests, twice}

-- ---- one axis

abbrev signed : Bool → ℕ → ℤ
signed false v = pos v
signed true v = neg_ℤ (pos v)

-- what is known of a value near a level: its sign, and twice its magnitude
record IsNear (x : ℤ) (sign : Bool) (v r : ℕ) : Type 0 where
  negative : is_negative x ≡ sign
  above : 2 * v < twice x + 2 * r
  below : twice x < 2 * v + 2 * r

near_is : (sign : Bool) (v r : ℕ) (x : ℤ) → r ≤ v → distance x (signed sign v) < r → IsNear x sign v r
near_is false v r (pos n) l d = record { negative = refl; above = omega (arith, ints, l, d); below = omega (arith, ints, l, d) }
near_is false v r (negsuc n) l d = absurd (omega (arith, ints, l, d))
near_is true v r (pos n) l d = absurd (omega (arith, ints, l, d))
near_is true v r (negsuc n) l d = record { negative = refl; above = omega (arith, ints, l, d); below = omega (arith, ints, l, d) }

-- the value of a label on an axis
abbrev value : List Point → List Bool → ℤ
value pts y = option_map_or (λ (p : Point). p.value) (find (λ p. pointwise beq p.label y) pts) (pos 0)

same_tests : (n s o p i q : Bool) → n ≡ s → o ≡ p → i ≡ q → (n ∷ o ∷ i ∷ []) ≡ (s ∷ p ∷ q ∷ [])
same_tests n s o p i q en eo ei = cc

none_inside : (t : ℕ) (b : Bool) → (b && nat_lt t 0) ≡ false
none_inside t true = le-ltb t 0 (omega arith)
none_inside t false = refl

both : (b c p q : Bool) → b ≡ p → c ≡ q → (b && c) ≡ (p && q)
both b c p q e f = ap₂ (λ (x y : Bool). x && y) e f

-- ---- an axis with 1 level

safe1 : (a r : ℕ) (x : ℤ) (y0 : Bool) → r ≤ a → distance x (value (axis1 a) (y0 ∷ [])) < r → tests (twice x) (is_negative x) (0, 0, 0) ≡ y0 ∷ false ∷ false ∷ []
safe1 a r x y0 l d = go (near_is y0 a r x l (subst (λ (z : ℤ). distance x z < r) (value_is y0) d))
  where
    value_is : (s : Bool) → value (axis1 a) (s ∷ []) ≡ signed s a
    value_is false = refl
    value_is true = refl

    go : IsNear x y0 a r → tests (twice x) (is_negative x) (0, 0, 0) ≡ y0 ∷ false ∷ false ∷ []
    go n = same_tests _ _ _ _ _ _ n.negative (le-ltb (twice x) 0 (omega arith)) (none_inside (twice x) (nat_le 0 (twice x)))

-- ---- an axis with 2 levels

abbrev level2 : ℕ → ℕ → Bool → ℕ
level2 a b false = a
level2 a b true = b

outer2 : (a b r t : ℕ) (o : Bool) → b + 2 * r ≤ a → 2 * level2 a b o < t + 2 * r → t < 2 * level2 a b o + 2 * r → nat_lt t (a + b) ≡ o
outer2 a b r t false p k l = le-ltb t (a + b) (omega (arith, p, k, l))
outer2 a b r t true p k l = lt-ltb t (a + b) (omega (arith, p, k, l))

safe2 : (a b r : ℕ) (x : ℤ) (y0 y1 : Bool) → r ≤ b → b + 2 * r ≤ a → distance x (value (axis2 a b) (y0 ∷ y1 ∷ [])) < r → tests (twice x) (is_negative x) (a + b, 0, 0) ≡ y0 ∷ y1 ∷ false ∷ []
safe2 a b r x y0 y1 l m d = go (near_is y0 (level2 a b y1) r x (least y1) (subst (λ (z : ℤ). distance x z < r) (value_is y0 y1) d))
  where
    value_is : (s o : Bool) → value (axis2 a b) (s ∷ o ∷ []) ≡ signed s (level2 a b o)
    value_is false false = refl
    value_is false true = refl
    value_is true false = refl
    value_is true true = refl

    least : (o : Bool) → r ≤ level2 a b o
    least false = omega (arith, l, m)
    least true = l

    go : IsNear x y0 (level2 a b y1) r → tests (twice x) (is_negative x) (a + b, 0, 0) ≡ y0 ∷ y1 ∷ false ∷ []
    go n = same_tests _ _ _ _ _ _ n.negative (outer2 a b r (twice x) y1 m n.above n.below) (none_inside (twice x) (nat_le 0 (twice x)))

-- ---- an axis with 4 levels

abbrev level4 : ℕ → ℕ → ℕ → ℕ → Bool → Bool → ℕ
level4 a b c d false false = a
level4 a b c d false true = b
level4 a b c d true true = c
level4 a b c d true false = d

module _ (a b c d r : ℕ) (pa : b + 2 * r ≤ a) (pb : c + 2 * r ≤ b) (pc : d + 2 * r ≤ c) where
  outer4 : (t : ℕ) (o i : Bool) → 2 * level4 a b c d o i < t + 2 * r → t < 2 * level4 a b c d o i + 2 * r → nat_lt t (b + c) ≡ o
  outer4 t false false k l = le-ltb t (b + c) (omega (arith, pa, pb, pc, k, l))
  outer4 t false true k l = le-ltb t (b + c) (omega (arith, pa, pb, pc, k, l))
  outer4 t true true k l = lt-ltb t (b + c) (omega (arith, pa, pb, pc, k, l))
  outer4 t true false k l = lt-ltb t (b + c) (omega (arith, pa, pb, pc, k, l))

  inner4 : (t : ℕ) (o i : Bool) → 2 * level4 a b c d o i < t + 2 * r → t < 2 * level4 a b c d o i + 2 * r → (nat_le (c + d) t && nat_lt t (a + b)) ≡ i
  inner4 t false false k l = both _ _ true false (le-leb (c + d) t (omega (arith, pa, pb, pc, k, l))) (le-ltb t (a + b) (omega (arith, pa, pb, pc, k, l)))
  inner4 t false true k l = both _ _ true true (le-leb (c + d) t (omega (arith, pa, pb, pc, k, l))) (lt-ltb t (a + b) (omega (arith, pa, pb, pc, k, l)))
  inner4 t true true k l = both _ _ true true (le-leb (c + d) t (omega (arith, pa, pb, pc, k, l))) (lt-ltb t (a + b) (omega (arith, pa, pb, pc, k, l)))
  inner4 t true false k l = both _ _ false true (lt-leb (c + d) t (omega (arith, pa, pb, pc, k, l))) (lt-ltb t (a + b) (omega (arith, pa, pb, pc, k, l)))

  safe4 : (x : ℤ) (y0 y1 y2 : Bool) → r ≤ d → distance x (value (axis4 a b c d) (y0 ∷ y1 ∷ y2 ∷ [])) < r → tests (twice x) (is_negative x) (b + c, c + d, a + b) ≡ y0 ∷ y1 ∷ y2 ∷ []
  safe4 x y0 y1 y2 l near = go (near_is y0 (level4 a b c d y1 y2) r x (least y1 y2) (subst (λ (z : ℤ). distance x z < r) (value_is y0 y1 y2) near))
    where
      value_is : (s o i : Bool) → value (axis4 a b c d) (s ∷ o ∷ i ∷ []) ≡ signed s (level4 a b c d o i)
      value_is false false false = refl
      value_is false false true = refl
      value_is false true true = refl
      value_is false true false = refl
      value_is true false false = refl
      value_is true false true = refl
      value_is true true true = refl
      value_is true true false = refl

      least : (o i : Bool) → r ≤ level4 a b c d o i
      least false false = omega (arith, l, pa, pb, pc)
      least false true = omega (arith, l, pa, pb, pc)
      least true true = omega (arith, l, pa, pb, pc)
      least true false = l

      go : IsNear x y0 (level4 a b c d y1 y2) r → tests (twice x) (is_negative x) (b + c, c + d, a + b) ≡ y0 ∷ y1 ∷ y2 ∷ []
      go n = same_tests _ _ _ _ _ _ n.negative (outer4 (twice x) y1 y2 n.above n.below) (inner4 (twice x) y1 y2 n.above n.below)

-- ---- the axes of the constellations

-- half the least distance of two values
abbrev pub safe : Shape → Hierarchy → ℕ
safe Qpsk h = 11585
safe Qam16 Flat = 5181
safe Qam16 Alpha1 = 5181
safe Qam16 Alpha2 = 3663
safe Qam16 Alpha4 = 2272
safe Qam64 Flat = 2528
safe Qam64 Alpha1 = 2528
safe Qam64 Alpha2 = 2115
safe Qam64 Alpha4 = 1576

pub half : (s : Shape) (h : Hierarchy) → spacing s h / 2 ≡ safe s h
half Qpsk h = refl
half Qam16 Flat = refl
half Qam16 Alpha1 = refl
half Qam16 Alpha2 = refl
half Qam16 Alpha4 = refl
half Qam64 Flat = refl
half Qam64 Alpha1 = refl
half Qam64 Alpha2 = refl
half Qam64 Alpha4 = refl

pub few : (s : Shape) (h : Hierarchy) → safe s h ≤ 11585
few Qpsk h = omega arith
few Qam16 Flat = omega arith
few Qam16 Alpha1 = omega arith
few Qam16 Alpha2 = omega arith
few Qam16 Alpha4 = omega arith
few Qam64 Flat = omega arith
few Qam64 Alpha1 = omega arith
few Qam64 Alpha2 = omega arith
few Qam64 Alpha4 = omega arith

-- the tests of the code give the bits of the level
abbrev padded : Shape → Bool → Bool → Bool → List Bool
padded Qpsk y0 y1 y2 = y0 ∷ false ∷ false ∷ []
padded Qam16 y0 y1 y2 = y0 ∷ y1 ∷ false ∷ []
padded Qam64 y0 y1 y2 = y0 ∷ y1 ∷ y2 ∷ []

decided : (s : Shape) (h : Hierarchy) (x : ℤ) (y0 y1 y2 : Bool) (i : ℕ) → distance x (value_of s h (take (label_bits s / 2) (y0 ∷ y1 ∷ y2 ∷ []))) < safe s h → axis_bit s h x i ≡ get_or (padded s y0 y1 y2) i false
decided Qpsk h x y0 y1 y2 i d = sym (bits_are Qpsk h x i) ∙ ap (λ (z : List Bool). get_or z i false) (safe1 11585 11585 x y0 (omega arith) d)
decided Qam16 Flat x y0 y1 y2 i d = sym (bits_are Qam16 Flat x i) ∙ ap (λ (z : List Bool). get_or z i false) (safe2 15543 5181 5181 x y0 y1 (omega arith) (omega arith) d)
decided Qam16 Alpha1 x y0 y1 y2 i d = sym (bits_are Qam16 Alpha1 x i) ∙ ap (λ (z : List Bool). get_or z i false) (safe2 15543 5181 5181 x y0 y1 (omega arith) (omega arith) d)
decided Qam16 Alpha2 x y0 y1 y2 i d = sym (bits_are Qam16 Alpha2 x i) ∙ ap (λ (z : List Bool). get_or z i false) (safe2 14654 7327 3663 x y0 y1 (omega arith) (omega arith) d)
decided Qam16 Alpha4 x y0 y1 y2 i d = sym (bits_are Qam16 Alpha4 x i) ∙ ap (λ (z : List Bool). get_or z i false) (safe2 13632 9088 2272 x y0 y1 (omega arith) (omega arith) d)
decided Qam64 Flat x y0 y1 y2 i d = sym (bits_are Qam64 Flat x i) ∙ ap (λ (z : List Bool). get_or z i false) (safe4 17697 12641 7584 2528 2528 (omega arith) (omega arith) (omega arith) x y0 y1 y2 (omega arith) d)
decided Qam64 Alpha1 x y0 y1 y2 i d = sym (bits_are Qam64 Alpha1 x i) ∙ ap (λ (z : List Bool). get_or z i false) (safe4 17697 12641 7584 2528 2528 (omega arith) (omega arith) (omega arith) x y0 y1 y2 (omega arith) d)
decided Qam64 Alpha2 x y0 y1 y2 i d = sym (bits_are Qam64 Alpha2 x i) ∙ ap (λ (z : List Bool). get_or z i false) (safe4 16921 12691 8461 4230 2115 (omega arith) (omega arith) (omega arith) x y0 y1 y2 (omega arith) d)
decided Qam64 Alpha4 x y0 y1 y2 i d = sym (bits_are Qam64 Alpha4 x i) ∙ ap (λ (z : List Bool). get_or z i false) (safe4 15766 12612 9459 6306 1576 (omega arith) (omega arith) (omega arith) x y0 y1 y2 (omega arith) d)

-- ---- cells

real_is : (s : Shape) (y : ℕ → Bool) → real_bits s y ≡ take (label_bits s / 2) (y 0 ∷ y 2 ∷ y 4 ∷ [])
unfolding numbers
real_is Qpsk y = refl
real_is Qam16 y = refl
real_is Qam64 y = refl

imaginary_is : (s : Shape) (y : ℕ → Bool) → imaginary_bits s y ≡ take (label_bits s / 2) (y 1 ∷ y 3 ∷ y 5 ∷ [])
unfolding numbers
imaginary_is Qpsk y = refl
imaginary_is Qam16 y = refl
imaginary_is Qam64 y = refl

module _ (s : Shape) (h : Hierarchy) (y : ℕ → Bool) (cell : Cell) (re : distance cell.re (value_of s h (real_bits s y)) < safe s h) (im : distance cell.im (value_of s h (imaginary_bits s y)) < safe s h) where
  real : (i : ℕ) → axis_bit s h cell.re i ≡ get_or (padded s (y 0) (y 2) (y 4)) i false
  real i = decided s h cell.re (y 0) (y 2) (y 4) i (subst (λ (z : List Bool). distance cell.re (value_of s h z) < safe s h) (real_is s y) re)

  imaginary : (i : ℕ) → axis_bit s h cell.im i ≡ get_or (padded s (y 1) (y 3) (y 5)) i false
  imaginary i = decided s h cell.im (y 1) (y 3) (y 5) i (subst (λ (z : List Bool). distance cell.im (value_of s h z) < safe s h) (imaginary_is s y) im)

  -- the bits that the label of the constellation has
  second : (t : Shape) (u v w : Bool) → 2 < label_bits t → get_or (padded t u v w) 1 false ≡ v
  second Qpsk u v w l = absurd (omega (arith, l))
  second Qam16 u v w l = refl
  second Qam64 u v w l = refl

  third : (t : Shape) (u v w : Bool) → 4 < label_bits t → get_or (padded t u v w) 2 false ≡ w
  third Qpsk u v w l = absurd (omega (arith, l))
  third Qam16 u v w l = absurd (omega (arith, l))
  third Qam64 u v w l = refl

  first : (t : Shape) (u v w : Bool) → get_or (padded t u v w) 0 false ≡ u
  first Qpsk u v w = refl
  first Qam16 u v w = refl
  first Qam64 u v w = refl

  six : (t : Shape) → label_bits t ≤ 6
  six Qpsk = omega arith
  six Qam16 = omega arith
  six Qam64 = omega arith

  pub label_is : (e : ℕ) → e < label_bits s → hard_bit s h cell e ≡ y e
  unfolding hard_bit
  label_is zero l = real 0 ∙ first s (y 0) (y 2) (y 4)
  label_is (suc zero) l = imaginary 0 ∙ first s (y 1) (y 3) (y 5)
  label_is (suc (suc zero)) l = real 1 ∙ second s (y 0) (y 2) (y 4) l
  label_is (suc (suc (suc zero))) l = imaginary 1 ∙ second s (y 1) (y 3) (y 5) (omega (arith, l))
  label_is (suc (suc (suc (suc zero)))) l = real 2 ∙ third s (y 0) (y 2) (y 4) l
  label_is (suc (suc (suc (suc (suc zero))))) l = imaginary 2 ∙ third s (y 1) (y 3) (y 5) (omega (arith, l))
  label_is (suc (suc (suc (suc (suc (suc e)))))) l = absurd (omega (arith, l, six s))

-- the code's half of the spacing, seen as what the decision is seen as
abbrev Decides : ℕ → ℕ → ℕ → Cell → Shape × Hierarchy → Type 0
Decides n label e cell v = e < label_bits v.0 → distance cell.re (map_cell v.0 v.1 (is_set label)).re < n → distance cell.im (map_cell v.0 v.1 (is_set label)).im < n → hard_bit v.0 v.1 cell e ≡ is_set label e

pub safe_is : (s : Shape) (h : Hierarchy) (v : Shape × Hierarchy) (spaced n label e : ℕ) (cell : Cell) → spaced ≡ spacing s h → n ≡ spaced / 2 → (s, h) ≡ v → Decides n label e cell v
safe_is s h v spaced n label e cell es en ev = subst (Decides n label e cell) ev decides
  where
    same : n ≡ safe s h
    same = en ∙ ap (λ (z : ℕ). z / 2) es ∙ half s h

    decides : Decides n label e cell (s, h)
    decides k p q = label_is s h (is_set label) cell (subst (λ (z : ℕ). distance cell.re (map_cell s h (is_set label)).re < z) same p) (subst (λ (z : ℕ). distance cell.im (map_cell s h (is_set label)).im < z) same q) e k

pub safe_few : (s : Shape) (h : Hierarchy) (spaced : ℕ) → spaced ≡ spacing s h → spaced / 2 ≤ 11585
safe_few s h spaced es = subst (λ (z : ℕ). z ≤ 11585) (sym (ap (λ (z : ℕ). z / 2) es ∙ half s h)) (few s h)
