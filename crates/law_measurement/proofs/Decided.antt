-- Hard decisions within the tolerance of a point are the bits of its label.
use Rattle.std.proofs.Common.{◌≡◌, ℕ, zero, suc, ◌+◌, ◌*◌, ◌/◌, ◌%◌, ◌<◌, ◌≤◌, Bool, true, false, cond, ◌&&◌, ◌||◌, List, [], ◌∷◌, take, ◌⊎◌, inl, inr, refl, sym, ap, ap₂, ◌∙◌, subst, arith, eqb, ltb, Option, Some}
use lib.Pointwise.{pointwise}
use Rattle.std.specs.Prelude.{ℤ, find, int_le, ◌==◌, nat_lt}
use Rattle.std.specs.Bool.{beq}
use Rattle.std.specs.List.{list_all, list_any}
use Rattle.std.specs.Option.{option_map_or}
use Rattle.std.proofs.lemmas.Int.{ints}
use Rattle.std.proofs.lemmas.Bool.{and_parts, ltb-true, lt-ltb, le-ltb, eqb-true, cases_lt}
use Rattle.std.proofs.lemmas.Bool.Decides.{nat_tests}
use Rattle.std.proofs.lemmas.List.{get_or-take}
use Rattle.spec_words.specs.Bits.{bit}
use Rattle.spec_words.specs.Words.{numbers}
use Rattle.mode_set.specs.StreamTable.{label_bits}
use Rattle.mode_set.specs.declared.modes.Shape.{Shape}
use Rattle.mode_set.specs.declared.modes.Shape.TheVariants.{Qpsk, Qam16, Qam64}
use Rattle.mode_set.specs.declared.modes.Hierarchy.{Hierarchy}
use Rattle.mode_set.specs.declared.modes.Hierarchy.TheVariants.{Flat, Alpha1, Alpha2, Alpha4}
use Rattle.qam_map.specs.Points.{Point, points, distance, on_axis, map_cell, value_of, real_bits, imaginary_bits, tolerance}
use Rattle.qam_map.specs.declared.cell.Cell.{Cell}
use Rattle.soft_metric.specs.Costs.{IsNear}
use Rattle.hard_decision.specs.Hard.{is_preferred, nearest, axis_bit, hard_bit}
use Rattle.law_measurement.specs.Own.{NearPointsAreDecided}

-- ---- one point against another

abbrev own : List Bool → Point → Bool
own ys p = pointwise beq p.label ys

-- the point of the label has the value v, all others are more than 2 t away from it
abbrev apart : ℤ → ℕ → List Bool → Point → Bool
apart v t ys p = cond (own ys p) (eqb (distance v p.value) 0) (ltb (2 * t) (distance v p.value))

or_right : (b c : Bool) → c ≡ true → (b || c) ≡ true
or_right true c e = refl
or_right false c e = e

nearer : (x : ℤ) (p r : Point) → distance x p.value < distance x r.value → is_preferred x p r ≡ true
nearer x p r l = ap (λ (b : Bool). b || ((distance x p.value == distance x r.value) && int_le r.value p.value)) (lt-ltb (distance x p.value) (distance x r.value) l)

farther : (x : ℤ) (p r : Point) → distance x r.value < distance x p.value → is_preferred x p r ≡ false
farther x p r l =
    let test : (distance x p.value == distance x r.value) ≡ false = grind (arith, nat_tests) in
    ap₂ (λ (b c : Bool). b || (c && int_le r.value p.value)) (le-ltb (distance x p.value) (distance x r.value) (omega (arith, l))) test

and_both : (b c : Bool) → b ≡ true → c ≡ true → (b && c) ≡ true
and_both b c e f = ap₂ (λ x y. x && y) e f

as_near : (x : ℤ) (p r : Point) → distance x p.value ≡ distance x r.value → int_le r.value p.value ≡ true → is_preferred x p r ≡ true
as_near x p r e order =
    let test : (distance x p.value == distance x r.value) ≡ true = grind (arith, nat_tests) in
    or_right (nat_lt (distance x p.value) (distance x r.value)) ((distance x p.value == distance x r.value) && int_le r.value p.value) (and_both (distance x p.value == distance x r.value) (int_le r.value p.value) test order)

at_one : (x v a : ℤ) → distance v a ≡ 0 → distance x a ≡ distance x v
at_one x v a e = omega (arith, ints, e)

far_off : (x v a : ℤ) (t : ℕ) → distance x v ≤ t → 2 * t < distance v a → distance x v < distance x a
far_off x v a t l f = omega (arith, ints, l, f)

same_value : (v a b : ℤ) → distance v a ≡ 0 → distance v b ≡ 0 → int_le b a ≡ true
same_value v a b e f = grind (arith, ints)

module _ (x v : ℤ) (t : ℕ) (ys : List Bool) (near : distance x v ≤ t) where
  own_wins : (p r : Point) → own ys p ≡ true → apart v t ys p ≡ true → apart v t ys r ≡ true → is_preferred x p r ≡ true
  own_wins p r o ep er = go (own ys r) refl
    where
      zero_p : distance v p.value ≡ 0
      zero_p = eqb-true (distance v p.value) 0 (ap (λ (b : Bool). cond b (eqb (distance v p.value) 0) (ltb (2 * t) (distance v p.value))) (sym o) ∙ ep)

      go : (b : Bool) → own ys r ≡ b → is_preferred x p r ≡ true
      go true e =
          let zero_r : distance v r.value ≡ 0 = eqb-true (distance v r.value) 0 (ap (λ (b : Bool). cond b (eqb (distance v r.value) 0) (ltb (2 * t) (distance v r.value))) (sym e) ∙ er) in
          as_near x p r (at_one x v p.value zero_p ∙ sym (at_one x v r.value zero_r)) (same_value v p.value r.value zero_p zero_r)
      go false e =
          let far : 2 * t < distance v r.value = ltb-true (2 * t) (distance v r.value) (ap (λ (b : Bool). cond b (eqb (distance v r.value) 0) (ltb (2 * t) (distance v r.value))) (sym e) ∙ er) in
          nearer x p r (omega (arith, at_one x v p.value zero_p, far_off x v r.value t near far))

  other_loses : (p r : Point) → own ys p ≡ false → own ys r ≡ true → apart v t ys p ≡ true → apart v t ys r ≡ true → is_preferred x p r ≡ false
  other_loses p r o e ep er =
      let far : 2 * t < distance v p.value = ltb-true (2 * t) (distance v p.value) (ap (λ (b : Bool). cond b (eqb (distance v p.value) 0) (ltb (2 * t) (distance v p.value))) (sym o) ∙ ep) in
      let zero_r : distance v r.value ≡ 0 = eqb-true (distance v r.value) 0 (ap (λ (b : Bool). cond b (eqb (distance v r.value) 0) (ltb (2 * t) (distance v r.value))) (sym e) ∙ er) in
      farther x p r (omega (arith, at_one x v r.value zero_r, far_off x v p.value t near far))

  -- ---- the point of the label among all

  wins_all : (p : Point) (ps : List Point) → own ys p ≡ true → apart v t ys p ≡ true → list_all (apart v t ys) ps ≡ true → list_all (is_preferred x p) ps ≡ true
  wins_all p [] o ep h = refl
  wins_all p (r ∷ ps) o ep h = and_both (is_preferred x p r) (list_all (is_preferred x p) ps) (own_wins p r o ep (and_parts _ _ h).0) (wins_all p ps o ep (and_parts _ _ h).1)

  none_and : (b : Bool) → (b && false) ≡ false
  none_and true = refl
  none_and false = refl

  loses_one : (p : Point) (ps : List Point) → own ys p ≡ false → apart v t ys p ≡ true → list_all (apart v t ys) ps ≡ true → list_any (own ys) ps ≡ true → list_all (is_preferred x p) ps ≡ false
  loses_one p [] o ep h some = absurd (cc)
  loses_one p (r ∷ ps) o ep h some = go (own ys r) refl (loses_one p ps o ep (and_parts _ _ h).1)
    where
      go : (b : Bool) → own ys r ≡ b → (list_any (own ys) ps ≡ true → list_all (is_preferred x p) ps ≡ false) → list_all (is_preferred x p) (r ∷ ps) ≡ false
      go true e rest = ap (λ (b : Bool). b && list_all (is_preferred x p) ps) (other_loses p r o e ep (and_parts _ _ h).0)
      go false e rest = ap (λ (b : Bool). is_preferred x p r && b) (rest (ap (λ (b : Bool). b || list_any (own ys) ps) (sym e) ∙ some)) ∙ none_and (is_preferred x p r)

  chosen : (all : List Point) (p : Point) → list_all (apart v t ys) all ≡ true → list_any (own ys) all ≡ true → apart v t ys p ≡ true → list_all (is_preferred x p) all ≡ own ys p
  chosen all p h some ep = go (own ys p) refl
    where
      go : (b : Bool) → own ys p ≡ b → list_all (is_preferred x p) all ≡ own ys p
      go true e = wins_all p all e ep h ∙ sym e
      go false e = loses_one p all e ep h some ∙ sym e

  found_own : (all ps : List Point) → list_all (apart v t ys) all ≡ true → list_any (own ys) all ≡ true → list_all (apart v t ys) ps ≡ true → find (λ p. list_all (is_preferred x p) all) ps ≡ find (own ys) ps
  found_own all [] h some g = refl
  found_own all (p ∷ ps) h some g =
      ap₂ (λ (b : Bool) (o : Option Point). cond b (Some p) o) (chosen all p h some (and_parts _ _ g).0) (found_own all ps h some (and_parts _ _ g).1)

-- ---- the constellations

abbrev bit_found : Shape → Hierarchy → List Bool → ℕ → Bool
bit_found s h ys j = option_map_or (λ (p : Point). bit p.label j) (find (own ys) (points s h)) false

-- what a table shows of the bits of a label on an axis
abbrev fine : Shape → Hierarchy → List Bool → Bool
fine s h ys =
    list_all (apart (value_of s h ys) (tolerance s h) ys) (points s h)
    && (list_any (own ys) (points s h) && (beq (bit_found s h ys 0) (bit ys 0) && (beq (bit_found s h ys 1) (bit ys 1) && beq (bit_found s h ys 2) (bit ys 2))))

abbrev for_bits : (Bool → Bool) → Bool
for_bits f = f false && f true

for_bits_at : (f : Bool → Bool) (b : Bool) → for_bits f ≡ true → f b ≡ true
for_bits_at f false h = (and_parts _ _ h).0
for_bits_at f true h = (and_parts _ _ h).1

abbrev table : Shape → Hierarchy → Bool
table s h = for_bits (λ a. for_bits (λ b. for_bits (λ c. fine s h (take (label_bits s / 2) (a ∷ b ∷ c ∷ [])))))

tables : (s : Shape) (h : Hierarchy) → table s h ≡ true
tables Qpsk h = refl
tables Qam16 Flat = refl
tables Qam16 Alpha1 = refl
tables Qam16 Alpha2 = refl
tables Qam16 Alpha4 = refl
tables Qam64 Flat = refl
tables Qam64 Alpha1 = refl
tables Qam64 Alpha2 = refl
tables Qam64 Alpha4 = refl

is_fine : (s : Shape) (h : Hierarchy) (a b c : Bool) → fine s h (take (label_bits s / 2) (a ∷ b ∷ c ∷ [])) ≡ true
is_fine s h a b c =
    for_bits_at (λ c. fine s h (take (label_bits s / 2) (a ∷ b ∷ c ∷ []))) c
    (for_bits_at (λ b. for_bits (λ c. fine s h (take (label_bits s / 2) (a ∷ b ∷ c ∷ [])))) b
    (for_bits_at (λ a. for_bits (λ b. for_bits (λ c. fine s h (take (label_bits s / 2) (a ∷ b ∷ c ∷ []))))) a (tables s h)))

beq_same : (a b : Bool) → beq a b ≡ true → a ≡ b
beq_same true true e = refl
beq_same true false e = absurd (cc)
beq_same false true e = absurd (cc)
beq_same false false e = refl

five_parts : (a b c d e : Bool) → (a && (b && (c && (d && e)))) ≡ true → (a ≡ true) × (b ≡ true) × (c ≡ true) × (d ≡ true) × (e ≡ true)
five_parts a b c d e h =
    let p = and_parts a (b && (c && (d && e))) h in
    let q = and_parts b (c && (d && e)) p.1 in
    let r = and_parts c (d && e) q.1 in
    let u = and_parts d e r.1 in
    (p.0, q.0, r.0, u.0, u.1)

fine_parts : (s : Shape) (h : Hierarchy) (ys : List Bool) → fine s h ys ≡ true
    → (list_all (apart (value_of s h ys) (tolerance s h) ys) (points s h) ≡ true) × (list_any (own ys) (points s h) ≡ true)
    × (beq (bit_found s h ys 0) (bit ys 0) ≡ true) × (beq (bit_found s h ys 1) (bit ys 1) ≡ true) × (beq (bit_found s h ys 2) (bit ys 2) ≡ true)
fine_parts s h ys f =
    five_parts (list_all (apart (value_of s h ys) (tolerance s h) ys) (points s h)) (list_any (own ys) (points s h)) (beq (bit_found s h ys 0) (bit ys 0)) (beq (bit_found s h ys 1) (bit ys 1)) (beq (bit_found s h ys 2) (bit ys 2)) f

fine_bit : (s : Shape) (h : Hierarchy) (ys : List Bool) (j : ℕ) → j < 3 → fine s h ys ≡ true → bit_found s h ys j ≡ bit ys j
fine_bit s h ys zero l f = beq_same (bit_found s h ys 0) (bit ys 0) (fine_parts s h ys f).2
fine_bit s h ys (suc zero) l f = beq_same (bit_found s h ys 1) (bit ys 1) (fine_parts s h ys f).3
fine_bit s h ys (suc (suc zero)) l f = beq_same (bit_found s h ys 2) (bit ys 2) (fine_parts s h ys f).4
fine_bit s h ys (suc (suc (suc j))) l f = absurd (omega (arith, l))

-- ---- one axis: ys are the bits of a label on it

decided : (s : Shape) (h : Hierarchy) (ys : List Bool) (j : ℕ) (x : ℤ) → j < 3 → fine s h ys ≡ true → distance x (value_of s h ys) ≤ tolerance s h → axis_bit s h x j ≡ bit ys j
unfolding nearest
decided s h ys j x l f near =
    let parts = fine_parts s h ys f in
    ap (λ (o : Option Point). option_map_or (λ (p : Point). bit p.label j) o false)
    (found_own x (value_of s h ys) (tolerance s h) ys near (points s h) (points s h) parts.0 parts.1 parts.0)
    ∙ fine_bit s h ys j l f

-- ---- both axes
real_is : (s : Shape) (y : ℕ → Bool) → real_bits s y ≡ take (label_bits s / 2) (y 0 ∷ y 2 ∷ y 4 ∷ [])
unfolding numbers
real_is Qpsk y = refl
real_is Qam16 y = refl
real_is Qam64 y = refl

imaginary_is : (s : Shape) (y : ℕ → Bool) → imaginary_bits s y ≡ take (label_bits s / 2) (y 1 ∷ y 3 ∷ y 5 ∷ [])
unfolding numbers
imaginary_is Qpsk y = refl
imaginary_is Qam16 y = refl
imaginary_is Qam64 y = refl

half_at : (a b c : Bool) (n j : ℕ) → j < n → n ≤ 3 → bit (take n (a ∷ b ∷ c ∷ [])) j ≡ bit (a ∷ b ∷ c ∷ []) j
half_at a b c n j l m = get_or-take n (a ∷ b ∷ c ∷ []) j false l

even_at : (y : ℕ → Bool) (j : ℕ) → j < 3 → bit (y 0 ∷ y 2 ∷ y 4 ∷ []) j ≡ y (2 * j)
even_at y zero l = refl
even_at y (suc zero) l = refl
even_at y (suc (suc zero)) l = refl
even_at y (suc (suc (suc j))) l = absurd (omega (arith, l))

odd_at : (y : ℕ → Bool) (j : ℕ) → j < 3 → bit (y 1 ∷ y 3 ∷ y 5 ∷ []) j ≡ y (2 * j + 1)
odd_at y zero l = refl
odd_at y (suc zero) l = refl
odd_at y (suc (suc zero)) l = refl
odd_at y (suc (suc (suc j))) l = absurd (omega (arith, l))

at_most_three : (s : Shape) → label_bits s / 2 ≤ 3
at_most_three Qpsk = omega arith
at_most_three Qam16 = omega arith
at_most_three Qam64 = omega arith

two_halves : (s : Shape) → label_bits s ≡ 2 * (label_bits s / 2)
two_halves Qpsk = refl
two_halves Qam16 = refl
two_halves Qam64 = refl

on_even : (c : Cell) (e : ℕ) → e % 2 ≡ 0 → on_axis c e ≡ c.re
on_even c e r = ap (λ (z : ℕ). cond (eqb z 0) c.re c.im) r

on_odd : (c : Cell) (e : ℕ) → e % 2 ≡ 1 → on_axis c e ≡ c.im
on_odd c e r = ap (λ (z : ℕ). cond (eqb z 0) c.re c.im) r

-- a law on a label bit, from the law on each axis
on_both : (P : ℤ → ℤ → ℕ → Bool → Type 0) (s : Shape) (h : Hierarchy) (y : ℕ → Bool) (cell : Cell) (e : ℕ) → e < label_bits s
    → ((a b c v : Bool) (j : ℕ) (x : ℤ) → j < label_bits s / 2 → e / 2 ≡ j → bit (take (label_bits s / 2) (a ∷ b ∷ c ∷ [])) j ≡ v → P x (value_of s h (take (label_bits s / 2) (a ∷ b ∷ c ∷ []))) e v)
    → P (on_axis cell e) (on_axis (map_cell s h y) e) e (y e)
on_both P s h y cell e l axis = go (cases_lt (e % 2) 1)
  where
    j : ℕ
    j = e / 2

    less : j < label_bits s / 2
    less = omega (arith, l, two_halves s)

    go : (e % 2 < 1) ⊎ (1 ≤ e % 2) → P (on_axis cell e) (on_axis (map_cell s h y) e) e (y e)
    go (inl m) =
        let r : e % 2 ≡ 0 = omega (arith, m) in
        let place : 2 * j ≡ e = omega (arith, r) in
        let few : j < 3 = omega (arith, less, at_most_three s) in
        let is : bit (take (label_bits s / 2) (y 0 ∷ y 2 ∷ y 4 ∷ [])) j ≡ y e = half_at (y 0) (y 2) (y 4) (label_bits s / 2) j less (at_most_three s) ∙ even_at y j few ∙ ap y place in
        let value : value_of s h (take (label_bits s / 2) (y 0 ∷ y 2 ∷ y 4 ∷ [])) ≡ on_axis (map_cell s h y) e = ap (value_of s h) (sym (real_is s y)) ∙ sym (on_even (map_cell s h y) e r) in
        subst (λ (z : ℤ). P (on_axis cell e) z e (y e)) value (axis (y 0) (y 2) (y 4) (y e) j (on_axis cell e) less refl is)
    go (inr m) =
        let r : e % 2 ≡ 1 = omega (arith, m) in
        let place : 2 * j + 1 ≡ e = omega (arith, r) in
        let few : j < 3 = omega (arith, less, at_most_three s) in
        let is : bit (take (label_bits s / 2) (y 1 ∷ y 3 ∷ y 5 ∷ [])) j ≡ y e = half_at (y 1) (y 3) (y 5) (label_bits s / 2) j less (at_most_three s) ∙ odd_at y j few ∙ ap y place in
        let value : value_of s h (take (label_bits s / 2) (y 1 ∷ y 3 ∷ y 5 ∷ [])) ≡ on_axis (map_cell s h y) e = ap (value_of s h) (sym (imaginary_is s y)) ∙ sym (on_odd (map_cell s h y) e r) in
        subst (λ (z : ℤ). P (on_axis cell e) z e (y e)) value (axis (y 1) (y 3) (y 5) (y e) j (on_axis cell e) less refl is)

near_at : (s : Shape) (h : Hierarchy) (point cell : Cell) (e : ℕ) → IsNear s h point cell → distance (on_axis cell e) (on_axis point e) ≤ tolerance s h
near_at s h point cell e n = go (cases_lt (e % 2) 1)
  where
    go : (e % 2 < 1) ⊎ (1 ≤ e % 2) → distance (on_axis cell e) (on_axis point e) ≤ tolerance s h
    go (inl m) = let r : e % 2 ≡ 0 = omega (arith, m) in
        subst (λ (z : ℕ). distance (cond (eqb z 0) cell.re cell.im) (cond (eqb z 0) point.re point.im) ≤ tolerance s h) (sym r) n.re
    go (inr m) = let r : e % 2 ≡ 1 = omega (arith, m) in
        subst (λ (z : ℕ). distance (cond (eqb z 0) cell.re cell.im) (cond (eqb z 0) point.re point.im) ≤ tolerance s h) (sym r) n.im

axis_decided : (s : Shape) (h : Hierarchy) (a b c v : Bool) (j e : ℕ) (x : ℤ) → j < label_bits s / 2 → e / 2 ≡ j → bit (take (label_bits s / 2) (a ∷ b ∷ c ∷ [])) j ≡ v
    → distance x (value_of s h (take (label_bits s / 2) (a ∷ b ∷ c ∷ []))) ≤ tolerance s h → axis_bit s h x (e / 2) ≡ v
axis_decided s h a b c v j e x l place is near =
    ap (axis_bit s h x) place ∙ decided s h (take (label_bits s / 2) (a ∷ b ∷ c ∷ [])) j x (omega (arith, l, at_most_three s)) (is_fine s h a b c) near ∙ is

pub near_points_are_decided : NearPointsAreDecided
unfolding hard_bit
near_points_are_decided s h y cell e l n =
    on_both (λ x v e b. distance x v ≤ tolerance s h → axis_bit s h x (e / 2) ≡ b) s h y cell e l
    (λ a b c v j x less place is near. axis_decided s h a b c v j e x less place is near) (near_at s h (map_cell s h y) cell e n)
