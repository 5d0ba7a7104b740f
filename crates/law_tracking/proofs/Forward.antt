-- A number close to the positive real axis: its direction is nearly forward.
use Rattle.std.proofs.Common.{◌≡◌, ℕ, ◌+◌, ◌-◌, ◌*◌, ◌^◌, ◌<◌, ◌≤◌, ap, refl, sym, subst, arith, inl, inr, Bool}
use Rattle.std.specs.Prelude.{ℤ, pos, negsuc, neg_ℤ, nat_abs, ◌+ℤ◌, ◌*ℤ◌, ◌<ℤ◌, ◌≤ℤ◌, if◌then◌else◌}
use Rattle.std.proofs.lemmas.Int.{ints}
use Rattle.std.proofs.lemmas.Nat.{div_below}
use Rattle.std.proofs.lemmas.Bool.{cases_lt, ne_eqb}
use Rattle.std.proofs.Math.Nat.{mul-le-mul_left}
use Rattle.spec_words.proofs.Floors.{IsFloor, floor_is, same_floor}
use Rattle.track_arithmetic.specs.Numbers.{floor, power, root, direction, direction_by, direction_part, forward}
use Rattle.track_arithmetic.specs.declared.complex.Complex.{Complex}
use Rattle.track_arithmetic.proofs.Roots.{root_is_greatest, part_at_most}

abbrev pub complex : ℤ → ℤ → Complex
complex re im = record { re = re; im = im }

-- a direction whose angle is small
pub record IsForward (u : Complex) : Type 0 where
  pub re : u.re ≡ pos 16384
  pub im : nat_abs u.im ≤ 4

-- by how much the amplitude exceeds the real part
excess : (a b d : ℕ) → 0 < a → 3641 * b ≤ a → (a + d) * (a + d) ≤ a * a + b * b → 7282 * d ≤ b
excess a b d some slim short = elim (cases_lt b (7282 * d)) [
  | inr le ↦ le
  | inl lt ↦
      let one = mul-le-mul_left b slim in
      let two = mul-le-mul_left a lt in
      absurd (omega (arith, one, two, short, some))
]

-- the quotient rounds to 2^14
real_part : (a s : ℕ) → 0 < s → a ≤ s → 32768 * (s - a) ≤ s → direction_part (pos a) s ≡ pos 16384
real_part a s some less near =
    let t = 32768 * a + s in
    same_floor (floor_is (pos t) (2 * s) (omega (arith, some))) (let f : IsFloor (pos t) (pos 16384) (2 * s) = record { low = omega (arith, near, less); high = omega (arith, less, some) } in f)

floor_four : (t : ℤ) (s : ℕ) → 0 < s → t <ℤ pos (10 * s) → neg_ℤ (pos (8 * s)) ≤ℤ t → nat_abs (floor t (2 * s)) ≤ 4
floor_four (pos x) s some high low = omega (arith, ints, div_below x (2 * s) 5 (omega (arith, some)) (omega (arith, ints, high)))
floor_four (negsuc x) s some high low = omega (arith, ints, div_below x (2 * s) 4 (omega (arith, some)) (omega (arith, ints, low)))

imaginary_part : (b : ℤ) (a s : ℕ) → 0 < a → a ≤ s → 3641 * nat_abs b ≤ a → nat_abs (direction_part b s) ≤ 4
imaginary_part b a s some less slim = floor_four (pos (2 ^ 15) *ℤ b +ℤ pos s) s (omega (arith, some, less)) (omega (arith, ints, some, less, slim)) (omega (arith, ints, some, less, slim))

by_some : (s : ℕ) (x : Complex) → 0 < s → direction_by s x ≡ complex (direction_part x.re s) (direction_part x.im s)
by_some s x h = ap (λ (t : Bool). if t then forward else complex (direction_part x.re s) (direction_part x.im s)) (ne_eqb s 0 (λ e. omega (arith, e, h)))

by_forward : (a : ℕ) (b : ℤ) (s : ℕ) → 0 < a → 3641 * nat_abs b ≤ a → a ≤ s → s * s ≤ a * a + nat_abs b * nat_abs b → IsForward (direction_by s (complex (pos a) b))
by_forward a b s some slim less short =
    let d = s - a in
    let e : s ≡ a + d = omega (arith, less) in
    let sum : (a + d) * (a + d) ≤ a * a + nat_abs b * nat_abs b = subst (λ (z : ℕ). z * z ≤ a * a + nat_abs b * nat_abs b) e short in
    let more = excess a (nat_abs b) d some slim sum in
    let full : 0 < s = omega (arith, some, less) in
    let parts : IsForward (complex (direction_part (pos a) s) (direction_part b s)) = record { re = real_part a s full less (omega (arith, more, slim, less)); im = imaginary_part b a s some less slim } in
    subst IsForward (sym (by_some s (complex (pos a) b) full)) parts

pub forward_is : (a : ℕ) (b : ℤ) → 0 < a → 3641 * nat_abs b ≤ a → IsForward (direction (complex (pos a) b))
unfolding direction
forward_is a b some slim =
    let x = complex (pos a) b in
    by_forward a b (root (power x)) some slim (part_at_most a (power x) (power x) (root (power x)) refl refl (omega arith)) (root_is_greatest (power x)).within
