-- Near a point the bits of its label cost less than the others, by 15 at least.
use Rattle.std.proofs.Common.{◌≡◌, ℕ, zero, suc, ◌+◌, ◌-◌, ◌*◌, ◌/◌, ◌%◌, ◌^◌, ◌<◌, ◌≤◌, min, Bool, true, false, cond, not, ◌&&◌, ◌||◌, List, [], ◌∷◌, filter, take, ◌⊎◌, inl, inr, refl, sym, ap, ◌∙◌, subst, arith, eqb, ltb}
use Rattle.std.specs.Prelude.{ℤ}
use Rattle.std.specs.Bool.{beq}
use Rattle.std.proofs.lemmas.Int.{ints}
use Rattle.std.proofs.lemmas.Bool.{and_parts, ltb-true, eqb-true, cases_lt, cases_Bool}
use Rattle.std.proofs.lemmas.List.{get_or-take}
use Rattle.std.proofs.Math.Nat.{pow-le-pow_left}
use Rattle.spec_words.specs.Bits.{bit}
use Rattle.spec_words.specs.Words.{numbers}
use Rattle.mode_set.specs.StreamTable.{label_bits}
use Rattle.mode_set.specs.declared.modes.Shape.{Shape}
use Rattle.mode_set.specs.declared.modes.Shape.TheVariants.{Qpsk, Qam16, Qam64}
use Rattle.mode_set.specs.declared.modes.Hierarchy.{Hierarchy}
use Rattle.mode_set.specs.declared.modes.Hierarchy.TheVariants.{Flat, Alpha1, Alpha2, Alpha4}
use Rattle.qam_map.specs.Points.{Point, points, distance, on_axis, map_cell, value_of, real_bits, imaginary_bits, spacing, tolerance}
use Rattle.qam_map.specs.declared.cell.Cell.{Cell}
use Rattle.soft_metric.specs.Costs.{least_square, cost, fitting, IsNear, NearPointsFavourTheirBits, ExactPointsCostNothing}

triangle : (x n m : ℤ) → distance n m ≤ distance x n + distance x m
triangle x n m = omega (arith, ints)

square_le : (a b : ℕ) → a ≤ b → a ^ 2 ≤ b ^ 2
square_le a b h = pow-le-pow_left h 2

-- one of the points has this value
abbrev among : ℤ → List Point → Bool
among v [] = false
among v (p ∷ ps) = eqb (distance v p.value) 0 || among v ps

-- all points are at least d away from this value, and there is one
abbrev all_far : ℕ → ℤ → List Point → Bool
all_far d v [] = true
all_far d v (p ∷ ps) = ltb d (distance v p.value + 1) && all_far d v ps

abbrev is_some : List Point → Bool
is_some [] = false
is_some (p ∷ ps) = true

at_zero : (x v n : ℤ) → distance v n ≡ 0 → distance x n ≤ distance x v
at_zero x v n e = omega (arith, ints, e)

least_le : (x v : ℤ) (ps : List Point) → among v ps ≡ true → least_square x ps ≤ distance x v ^ 2
least_le x v [] h = absurd cc
least_le x v (p ∷ []) h = go (cases_Bool (eqb (distance v p.value) 0))
  where
    go : (eqb (distance v p.value) 0 ≡ true) ⊎ (eqb (distance v p.value) 0 ≡ false) → least_square x (p ∷ []) ≤ distance x v ^ 2
    go (inl e) = square_le _ _ (at_zero x v p.value (eqb-true _ _ e))
    go (inr e) = absurd cc
least_le x v (p ∷ q ∷ ps) h = go (cases_Bool (eqb (distance v p.value) 0)) (least_le x v (q ∷ ps))
  where
    go : (eqb (distance v p.value) 0 ≡ true) ⊎ (eqb (distance v p.value) 0 ≡ false) → (among v (q ∷ ps) ≡ true → least_square x (q ∷ ps) ≤ distance x v ^ 2) → least_square x (p ∷ q ∷ ps) ≤ distance x v ^ 2
    go (inl e) g = let here : distance x p.value ^ 2 ≤ distance x v ^ 2 = square_le _ _ (at_zero x v p.value (eqb-true _ _ e)) in omega (arith, here)
    go (inr e) g = let rest : least_square x (q ∷ ps) ≤ distance x v ^ 2 = g (ap (λ b. b || among v (q ∷ ps)) (sym e) ∙ h) in omega (arith, rest)

far_one : (x v n : ℤ) (d t : ℕ) → ltb d (distance v n + 1) ≡ true → distance x v ≤ t → d - t ≤ distance x n
far_one x v n d t h l = omega (arith, ltb-true _ _ h, triangle x v n, l)

least_far : (x v : ℤ) (d t : ℕ) (ps : List Point) → is_some ps ≡ true → all_far d v ps ≡ true → distance x v ≤ t → (d - t) ^ 2 ≤ least_square x ps
least_far x v d t [] s h l = absurd cc
least_far x v d t (p ∷ []) s h l = square_le _ _ (far_one x v p.value d t (and_parts _ _ h).0 l)
least_far x v d t (p ∷ q ∷ ps) s h l =
    let here : (d - t) ^ 2 ≤ distance x p.value ^ 2 = square_le _ _ (far_one x v p.value d t (and_parts _ _ h).0 l) in
    let more : (d - t) ^ 2 ≤ least_square x (q ∷ ps) = least_far x v d t (q ∷ ps) refl (and_parts _ _ h).1 l in
    omega (arith, here, more)

-- what a table shows of the label of a point and a place of the axis
abbrev fine : Shape → Hierarchy → List Bool → ℕ → Bool
fine s h ys j =
    let b = bit ys j in
    let v = value_of s h ys in
    among v (fitting s h (2 * j) b) && (is_some (fitting s h (2 * j) (not b)) && all_far (spacing s h) v (fitting s h (2 * j) (not b)))

abbrev margin : Shape → Hierarchy → Bool
margin s h = let d = spacing s h in let t = tolerance s h in ltb (t ^ 2 / 2 ^ 18 + 14) (min 4095 ((d - t) ^ 2 / 2 ^ 18))

abbrev all_below : (ℕ → Bool) → ℕ → Bool
all_below t zero = true
all_below t (suc n) = t n && all_below t n

all_below_at : (t : ℕ → Bool) (n k : ℕ) → all_below t n ≡ true → k < n → t k ≡ true
all_below_at t zero k h l = absurd (omega arith)
all_below_at t (suc n) k h l = go (cases_lt k n) (all_below_at t n k (and_parts _ _ h).1)
  where
    go : (k < n) ⊎ (n ≤ k) → (k < n → t k ≡ true) → t k ≡ true
    go (inl m) f = f m
    go (inr m) f = let e : k ≡ n = omega arith in rw e (and_parts _ _ h).0

abbrev for_bits : (Bool → Bool) → Bool
for_bits f = f false && f true

for_bits_at : (f : Bool → Bool) (b : Bool) → for_bits f ≡ true → f b ≡ true
for_bits_at f false h = (and_parts _ _ h).0
for_bits_at f true h = (and_parts _ _ h).1

abbrev table : Shape → Hierarchy → Bool
table s h = for_bits (λ a. for_bits (λ b. for_bits (λ c. all_below (fine s h (take (label_bits s / 2) (a ∷ b ∷ c ∷ []))) (label_bits s / 2))))

tables : (s : Shape) (h : Hierarchy) → table s h ≡ true
tables Qpsk h = refl
tables Qam16 Flat = refl
tables Qam16 Alpha1 = refl
tables Qam16 Alpha2 = refl
tables Qam16 Alpha4 = refl
tables Qam64 Flat = refl
tables Qam64 Alpha1 = refl
tables Qam64 Alpha2 = refl
tables Qam64 Alpha4 = refl

margins : (s : Shape) (h : Hierarchy) → margin s h ≡ true
margins Qpsk h = refl
margins Qam16 Flat = refl
margins Qam16 Alpha1 = refl
margins Qam16 Alpha2 = refl
margins Qam16 Alpha4 = refl
margins Qam64 Flat = refl
margins Qam64 Alpha1 = refl
margins Qam64 Alpha2 = refl
margins Qam64 Alpha4 = refl

is_fine : (s : Shape) (h : Hierarchy) (a b c : Bool) (j : ℕ) → j < label_bits s / 2 → fine s h (take (label_bits s / 2) (a ∷ b ∷ c ∷ [])) j ≡ true
is_fine s h a b c j l =
    all_below_at (fine s h (take (label_bits s / 2) (a ∷ b ∷ c ∷ []))) (label_bits s / 2) j
    (for_bits_at (λ c. all_below (fine s h (take (label_bits s / 2) (a ∷ b ∷ c ∷ []))) (label_bits s / 2)) c
    (for_bits_at (λ b. for_bits (λ c. all_below (fine s h (take (label_bits s / 2) (a ∷ b ∷ c ∷ []))) (label_bits s / 2))) b
    (for_bits_at (λ a. for_bits (λ b. for_bits (λ c. all_below (fine s h (take (label_bits s / 2) (a ∷ b ∷ c ∷ []))) (label_bits s / 2)))) a (tables s h)))) l

least_costs : (a b t u : ℕ) → a ≤ t → u ≤ b → t / 2 ^ 18 + 14 < min 4095 (u / 2 ^ 18) → min 4095 (a / 2 ^ 18) + 15 ≤ min 4095 (b / 2 ^ 18)
least_costs a b t u h k m = omega (arith, h, k, m)

-- ---- one axis: ys are the bits of a label on it
favours : (s : Shape) (h : Hierarchy) (ys : List Bool) (j : ℕ) (x : ℤ) → fine s h ys j ≡ true → distance x (value_of s h ys) ≤ tolerance s h → cost s h x (2 * j) (bit ys j) + 15 ≤ cost s h x (2 * j) (not (bit ys j))
unfolding cost
favours s h ys j x f l =
    let d = spacing s h in
    let t = tolerance s h in
    let b = bit ys j in
    let v = value_of s h ys in
    let f0 = and_parts _ _ f in
    let f1 = and_parts _ _ f0.1 in
    let own : least_square x (fitting s h (2 * j) b) ≤ distance x v ^ 2 = least_le x v (fitting s h (2 * j) b) f0.0 in
    let near : distance x v ^ 2 ≤ t ^ 2 = square_le _ _ l in
    let far : (d - t) ^ 2 ≤ least_square x (fitting s h (2 * j) (not b)) = least_far x v d t (fitting s h (2 * j) (not b)) f1.0 f1.1 l in
    least_costs _ _ (t ^ 2) ((d - t) ^ 2) (omega (arith, own, near)) far (ltb-true _ _ (margins s h))

exact : (s : Shape) (h : Hierarchy) (ys : List Bool) (j : ℕ) (x : ℤ) → fine s h ys j ≡ true → distance x (value_of s h ys) ≡ 0 → cost s h x (2 * j) (bit ys j) ≡ 0
unfolding cost
exact s h ys j x f l =
    let b = bit ys j in
    let v = value_of s h ys in
    let own : least_square x (fitting s h (2 * j) b) ≤ distance x v ^ 2 = least_le x v (fitting s h (2 * j) b) (and_parts _ _ f).0 in
    let none : distance x v ^ 2 ≡ 0 = ap (λ (z : ℕ). z ^ 2) l in
    omega (arith, own, none)

-- ---- both axes
same_place : (s : Shape) (h : Hierarchy) (x : ℤ) (e j : ℕ) (b : Bool) → e / 2 ≡ j → cost s h x e b ≡ cost s h x (2 * j) b
unfolding cost
same_place s h x e j b l =
    let place : e / 2 ≡ 2 * j / 2 = omega (arith, l) in
    ap (λ (z : ℕ). min 4095 (least_square x (filter (λ p. beq (bit p.label z) b) (points s h)) / 2 ^ 18)) place

axis_favours : (s : Shape) (h : Hierarchy) (a b c v : Bool) (j e : ℕ) (x : ℤ) → j < label_bits s / 2 → e / 2 ≡ j → bit (take (label_bits s / 2) (a ∷ b ∷ c ∷ [])) j ≡ v
    → distance x (value_of s h (take (label_bits s / 2) (a ∷ b ∷ c ∷ []))) ≤ tolerance s h → cost s h x e v + 15 ≤ cost s h x e (not v)
axis_favours s h a b c v j e x l place is near =
    let here : cost s h x (2 * j) v + 15 ≤ cost s h x (2 * j) (not v) = subst (λ (z : Bool). cost s h x (2 * j) z + 15 ≤ cost s h x (2 * j) (not z)) is (favours s h _ j x (is_fine s h a b c j l) near) in
    omega (arith, here, same_place s h x e j v place, same_place s h x e j (not v) place)

axis_exact : (s : Shape) (h : Hierarchy) (a b c v : Bool) (j e : ℕ) (x : ℤ) → j < label_bits s / 2 → e / 2 ≡ j → bit (take (label_bits s / 2) (a ∷ b ∷ c ∷ [])) j ≡ v
    → distance x (value_of s h (take (label_bits s / 2) (a ∷ b ∷ c ∷ []))) ≡ 0 → cost s h x e v ≡ 0
axis_exact s h a b c v j e x l place is near =
    let here : cost s h x (2 * j) v ≡ 0 = subst (λ (z : Bool). cost s h x (2 * j) z ≡ 0) is (exact s h _ j x (is_fine s h a b c j l) near) in
    same_place s h x e j v place ∙ here

real_is : (s : Shape) (y : ℕ → Bool) → real_bits s y ≡ take (label_bits s / 2) (y 0 ∷ y 2 ∷ y 4 ∷ [])
unfolding numbers
real_is Qpsk y = refl
real_is Qam16 y = refl
real_is Qam64 y = refl

imaginary_is : (s : Shape) (y : ℕ → Bool) → imaginary_bits s y ≡ take (label_bits s / 2) (y 1 ∷ y 3 ∷ y 5 ∷ [])
unfolding numbers
imaginary_is Qpsk y = refl
imaginary_is Qam16 y = refl
imaginary_is Qam64 y = refl

half_at : (a b c : Bool) (n j : ℕ) → j < n → n ≤ 3 → bit (take n (a ∷ b ∷ c ∷ [])) j ≡ bit (a ∷ b ∷ c ∷ []) j
half_at a b c n j l m = get_or-take n (a ∷ b ∷ c ∷ []) j false l

even_at : (y : ℕ → Bool) (j : ℕ) → j < 3 → bit (y 0 ∷ y 2 ∷ y 4 ∷ []) j ≡ y (2 * j)
even_at y zero l = refl
even_at y (suc zero) l = refl
even_at y (suc (suc zero)) l = refl
even_at y (suc (suc (suc j))) l = absurd (omega (arith, l))

odd_at : (y : ℕ → Bool) (j : ℕ) → j < 3 → bit (y 1 ∷ y 3 ∷ y 5 ∷ []) j ≡ y (2 * j + 1)
odd_at y zero l = refl
odd_at y (suc zero) l = refl
odd_at y (suc (suc zero)) l = refl
odd_at y (suc (suc (suc j))) l = absurd (omega (arith, l))

at_most_three : (s : Shape) → label_bits s / 2 ≤ 3
at_most_three Qpsk = omega arith
at_most_three Qam16 = omega arith
at_most_three Qam64 = omega arith

two_halves : (s : Shape) → label_bits s ≡ 2 * (label_bits s / 2)
two_halves Qpsk = refl
two_halves Qam16 = refl
two_halves Qam64 = refl

on_even : (c : Cell) (e : ℕ) → e % 2 ≡ 0 → on_axis c e ≡ c.re
on_even c e r = ap (λ (z : ℕ). cond (eqb z 0) c.re c.im) r

on_odd : (c : Cell) (e : ℕ) → e % 2 ≡ 1 → on_axis c e ≡ c.im
on_odd c e r = ap (λ (z : ℕ). cond (eqb z 0) c.re c.im) r

-- what a law says of the bit of a place, from what it says of each axis
on_both : (P : ℤ → ℤ → ℕ → Bool → Type 0) (s : Shape) (h : Hierarchy) (y : ℕ → Bool) (cell : Cell) (e : ℕ) → e < label_bits s
    → ((a b c v : Bool) (j : ℕ) (x : ℤ) → j < label_bits s / 2 → e / 2 ≡ j → bit (take (label_bits s / 2) (a ∷ b ∷ c ∷ [])) j ≡ v → P x (value_of s h (take (label_bits s / 2) (a ∷ b ∷ c ∷ []))) e v)
    → P (on_axis cell e) (on_axis (map_cell s h y) e) e (y e)
on_both P s h y cell e l axis = go (cases_lt (e % 2) 1)
  where
    j : ℕ
    j = e / 2

    less : j < label_bits s / 2
    less = omega (arith, l, two_halves s)

    go : (e % 2 < 1) ⊎ (1 ≤ e % 2) → P (on_axis cell e) (on_axis (map_cell s h y) e) e (y e)
    go (inl m) =
        let r : e % 2 ≡ 0 = omega (arith, m) in
        let place : 2 * j ≡ e = omega (arith, r) in
        let few : j < 3 = omega (arith, less, at_most_three s) in
        let is : bit (take (label_bits s / 2) (y 0 ∷ y 2 ∷ y 4 ∷ [])) j ≡ y e = half_at (y 0) (y 2) (y 4) (label_bits s / 2) j less (at_most_three s) ∙ even_at y j few ∙ ap y place in
        let value : value_of s h (take (label_bits s / 2) (y 0 ∷ y 2 ∷ y 4 ∷ [])) ≡ on_axis (map_cell s h y) e = ap (value_of s h) (sym (real_is s y)) ∙ sym (on_even (map_cell s h y) e r) in
        subst (λ (z : ℤ). P (on_axis cell e) z e (y e)) value (axis (y 0) (y 2) (y 4) (y e) j (on_axis cell e) less refl is)
    go (inr m) =
        let r : e % 2 ≡ 1 = omega (arith, m) in
        let place : 2 * j + 1 ≡ e = omega (arith, r) in
        let few : j < 3 = omega (arith, less, at_most_three s) in
        let is : bit (take (label_bits s / 2) (y 1 ∷ y 3 ∷ y 5 ∷ [])) j ≡ y e = half_at (y 1) (y 3) (y 5) (label_bits s / 2) j less (at_most_three s) ∙ odd_at y j few ∙ ap y place in
        let value : value_of s h (take (label_bits s / 2) (y 1 ∷ y 3 ∷ y 5 ∷ [])) ≡ on_axis (map_cell s h y) e = ap (value_of s h) (sym (imaginary_is s y)) ∙ sym (on_odd (map_cell s h y) e r) in
        subst (λ (z : ℤ). P (on_axis cell e) z e (y e)) value (axis (y 1) (y 3) (y 5) (y e) j (on_axis cell e) less refl is)

near_at : (s : Shape) (h : Hierarchy) (point cell : Cell) (e : ℕ) → IsNear s h point cell → distance (on_axis cell e) (on_axis point e) ≤ tolerance s h
near_at s h point cell e n = go (cases_lt (e % 2) 1)
  where
    go : (e % 2 < 1) ⊎ (1 ≤ e % 2) → distance (on_axis cell e) (on_axis point e) ≤ tolerance s h
    go (inl m) = let r : e % 2 ≡ 0 = omega (arith, m) in
        subst (λ (z : ℕ). distance (cond (eqb z 0) cell.re cell.im) (cond (eqb z 0) point.re point.im) ≤ tolerance s h) (sym r) n.re
    go (inr m) = let r : e % 2 ≡ 1 = omega (arith, m) in
        subst (λ (z : ℕ). distance (cond (eqb z 0) cell.re cell.im) (cond (eqb z 0) point.re point.im) ≤ tolerance s h) (sym r) n.im

pub near_points : NearPointsFavourTheirBits
near_points s h y cell e l n =
    on_both (λ x v e b. distance x v ≤ tolerance s h → cost s h x e b + 15 ≤ cost s h x e (not b)) s h y cell e l
    (λ a b c v j x less place is near. axis_favours s h a b c v j e x less place is near) (near_at s h (map_cell s h y) cell e n)

none_apart : (x : ℤ) → distance x x ≡ 0
none_apart x = omega (arith, ints)

pub exact_points : ExactPointsCostNothing
exact_points s h y e l =
    let point : Cell = map_cell s h y in
    let none : distance (on_axis point e) (on_axis point e) ≡ 0 = none_apart (on_axis point e) in
    let zero_cost : cost s h (on_axis point e) e (y e) ≡ 0 =
    on_both (λ x v e b. distance x v ≡ 0 → cost s h x e b ≡ 0) s h y point e l
    (λ a b c v j x less place is near. axis_exact s h a b c v j e x less place is near) none in
    let close : (x : ℤ) → distance x x ≤ tolerance s h = λ x. omega (arith, none_apart x) in
    let less : cost s h (on_axis point e) e (y e) + 15 ≤ cost s h (on_axis point e) e (not (y e)) = near_points s h y point e l (record { re = close point.re; im = close point.im }) in
    (zero_cost, omega (arith, less))
