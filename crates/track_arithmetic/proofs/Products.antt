-- Products and sums that fit, and how large they are.
use Rattle.std.proofs.Common.{◌≡◌, ℕ, ◌+◌, ◌*◌, ◌^◌, ◌≤◌, ap, sym, ◌∙◌, subst, arith, to_z, of_z}
use Rattle.std.specs.Prelude.{ℤ, ◌+ℤ◌, ◌-ℤ◌, ◌*ℤ◌, nat_abs}
use Rattle.std.specs.Int.{w64}
use Rattle.std.proofs.lemmas.Int.{ints}
use Rattle.std.proofs.lemmas.Nat.{mul-le}
use Rattle.spec_words.proofs.Sizes.{Below, times_below, less_below, plus_below}
use Rattle.track_arithmetic.specs.Laws.{IsWithin}
use Rattle.track_arithmetic.specs.Numbers.{times, scaled}
use Rattle.track_arithmetic.specs.declared.complex.Complex.{Complex}

-- what fits stays
pub held : (z : ℤ) → nat_abs z ≤ 2 ^ 62 → to_z w64 (of_z w64 z) ≡ z
held z h = omega (arith, ints, h)

pub product_below : (x y : ℤ) (m n : ℕ) → nat_abs x ≤ m → nat_abs y ≤ n → nat_abs (x *ℤ y) ≤ m * n
product_below x y m n h k = let a : Below x m = record { below = h } in let b : Below y n = record { below = k } in (times_below a b).below

-- a product whose factors the call was given
pub given_product : (p x y : ℤ) → nat_abs x ≤ 2 ^ 62 → nat_abs y ≤ 2 ^ 62 → p ≡ to_z w64 (of_z w64 x) *ℤ to_z w64 (of_z w64 y) → p ≡ x *ℤ y
given_product p x y hx hy e = e ∙ ap (λ (z : ℤ). z *ℤ to_z w64 (of_z w64 y)) (held x hx) ∙ ap (λ (z : ℤ). x *ℤ z) (held y hy)

pub given_below : (p x y : ℤ) (m n : ℕ) → nat_abs p ≤ 2 ^ 61 → p ≡ x *ℤ y → nat_abs x ≤ m → nat_abs y ≤ n → nat_abs (to_z w64 (of_z w64 p)) ≤ n * m
given_below p x y m n small e hx hy =
    let same = held p (omega (arith, small)) in
    let all : nat_abs (x *ℤ y) ≤ m * n = product_below x y m n hx hy in
    let below : nat_abs p ≤ m * n = subst (λ (z : ℤ). nat_abs z ≤ m * n) (sym e) all in
    subst (λ (z : ℤ). nat_abs z ≤ n * m) (sym same) (omega (arith, below))

abbrev made : ℤ → ℤ → Complex
made re im = record { re = re; im = im }

pub is_product : (x y : Complex) (p q r s : ℤ) → p ≡ x.re *ℤ y.re → q ≡ x.im *ℤ y.im → r ≡ x.re *ℤ y.im → s ≡ x.im *ℤ y.re
    → nat_abs p ≤ 2 ^ 61 → nat_abs q ≤ 2 ^ 61 → nat_abs r ≤ 2 ^ 61 → nat_abs s ≤ 2 ^ 61
    → ◌≡◌ {A = Complex} (record { re = to_z w64 (of_z w64 (to_z w64 (of_z w64 p) -ℤ to_z w64 (of_z w64 q))); im = to_z w64 (of_z w64 (to_z w64 (of_z w64 r) +ℤ to_z w64 (of_z w64 s))) }) (times x y)
is_product x y p q r s ep eq er es hp hq hr hs =
    let re : to_z w64 (of_z w64 (to_z w64 (of_z w64 p) -ℤ to_z w64 (of_z w64 q))) ≡ p -ℤ q = omega (arith, ints, hp, hq) in
    let im : to_z w64 (of_z w64 (to_z w64 (of_z w64 r) +ℤ to_z w64 (of_z w64 s))) ≡ r +ℤ s = omega (arith, ints, hr, hs) in
    let re_is : p -ℤ q ≡ x.re *ℤ y.re -ℤ x.im *ℤ y.im = ap (λ (z : ℤ). z -ℤ q) ep ∙ ap (λ (z : ℤ). x.re *ℤ y.re -ℤ z) eq in
    let im_is : r +ℤ s ≡ x.re *ℤ y.im +ℤ x.im *ℤ y.re = ap (λ (z : ℤ). z +ℤ s) er ∙ ap (λ (z : ℤ). x.re *ℤ y.im +ℤ z) es in
    ap (λ (z : ℤ). made z (to_z w64 (of_z w64 (to_z w64 (of_z w64 r) +ℤ to_z w64 (of_z w64 s))))) (re ∙ re_is) ∙ ap (made (x.re *ℤ y.re -ℤ x.im *ℤ y.im)) (im ∙ im_is)

pub times_within : (x y : Complex) (m n : ℕ) → IsWithin m x → IsWithin n y → IsWithin (2 * (m * n)) (times x y)
times_within x y m n h k =
    let a : Below x.re m = record { below = h.re } in
    let b : Below x.im m = record { below = h.im } in
    let c : Below y.re n = record { below = k.re } in
    let d : Below y.im n = record { below = k.im } in
    let re = less_below (times_below a c) (times_below b d) in
    let im = plus_below (times_below a d) (times_below b c) in
    record { re = omega (arith, re.below); im = omega (arith, im.below) }

pub square_below : (x m : ℕ) → x ≤ m → x * x ≤ m * m
square_below x m h = mul-le x x m m h h
