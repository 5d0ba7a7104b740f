-- Complex integers.
use Rattle.std.specs.Prelude.{ℕ, zero, suc, ◌+◌, ◌-◌, ◌*◌, ◌%◌, ◌^◌, ◌≤◌, ◌==◌, nat_le, if◌then◌else◌, List, [], ◌∷◌}
use Rattle.std.specs.Prelude.{get_or, ℤ, pos, neg_ℤ, nat_abs, ◌+ℤ◌, ◌-ℤ◌, ◌*ℤ◌}
use Rattle.std.specs.Int.{int_div_euclid, saturate_signed, w16}
use Rattle.track_arithmetic.specs.declared.complex.Complex.{Complex}

-- zero
abbrev pub nothing : Complex
nothing = record { re = pos 0; im = pos 0 }

-- the sum
abbrev pub plus : Complex → Complex → Complex
plus x y = record { re = x.re +ℤ y.re; im = x.im +ℤ y.im }

-- the difference
abbrev pub minus : Complex → Complex → Complex
minus x y = record { re = x.re -ℤ y.re; im = x.im -ℤ y.im }

-- the product
abbrev pub times : Complex → Complex → Complex
times x y = record { re = x.re *ℤ y.re -ℤ x.im *ℤ y.im; im = x.re *ℤ y.im +ℤ x.im *ℤ y.re }

-- the conjugate
abbrev pub conjugate : Complex → Complex
conjugate x = record { re = x.re; im = neg_ℤ x.im }

-- an integer multiple
abbrev pub scaled : ℤ → Complex → Complex
scaled n x = record { re = n *ℤ x.re; im = n *ℤ x.im }

-- the square of the amplitude
abbrev pub power : Complex → ℕ
power x = nat_abs x.re * nat_abs x.re + nat_abs x.im * nat_abs x.im

-- the sum of f over a list
unfoldable pub sum_of : (ℕ → Complex) → List ℕ → Complex
sum_of f [] = nothing
sum_of f (i ∷ is) = plus (f i) (sum_of f is)

-- ---- rounding

-- x / n rounded down
abbrev pub floor : ℤ → ℕ → ℤ
floor x n = int_div_euclid x (pos n)

-- the integer nearest to x / n, of two the greater
abbrev pub nearest : ℤ → ℕ → ℤ
nearest x n = floor (pos 2 *ℤ x +ℤ pos n) (2 * n)

-- the same as a value of a cell
abbrev pub value_near : ℤ → ℕ → ℤ
value_near x n = saturate_signed w16 (nearest x n)

-- x / 2^s, rounded down on each axis
abbrev pub shifted : ℕ → Complex → Complex
shifted s x = record { re = floor x.re (2 ^ s); im = floor x.im (2 ^ s) }

-- x / 2^s, rounded on each axis to the nearest integer, of two the greater
abbrev pub near : ℕ → Complex → Complex
near s x = record { re = floor (x.re +ℤ pos (2 ^ (s - 1))) (2 ^ s); im = floor (x.im +ℤ pos (2 ^ (s - 1))) (2 ^ s) }

-- ---- directions: complex numbers of amplitude 2^14

-- the root of n, from the root of n - 1
abbrev pub root_up_to : ℕ → ℕ → ℕ
root_up_to r n = if (r + 1) * (r + 1) == n then r + 1 else r

-- the greatest number whose square is at most n
unfoldable pub root : ℕ → ℕ
root zero = 0
root (suc n) = root_up_to (root n) (suc n)

-- no turn, times 2^14
abbrev pub forward : Complex
forward = record { re = pos (2 ^ 14); im = pos 0 }

-- 2^14 times a part over the amplitude s, rounded
abbrev pub direction_part : ℤ → ℕ → ℤ
direction_part x s = floor (pos (2 ^ 15) *ℤ x +ℤ pos s) (2 * s)

-- the direction of x, given its amplitude
abbrev pub direction_by : ℕ → Complex → Complex
direction_by s x = if s == 0 then forward else record { re = direction_part x.re s; im = direction_part x.im s }

-- the direction of x; forward if x is 0
unfoldable pub direction : Complex → Complex
direction x = direction_by (root (power x)) x

-- 2^14 cos (2 pi i / 64) for i = 0 to 16, rounded
abbrev pub first_cosines : List ℤ
first_cosines = pos 16384 ∷ pos 16305 ∷ pos 16069 ∷ pos 15679 ∷ pos 15137 ∷ pos 14449 ∷ pos 13623 ∷ pos 12665
    ∷ pos 11585 ∷ pos 10394 ∷ pos 9102 ∷ pos 7723 ∷ pos 6270 ∷ pos 4756 ∷ pos 3196 ∷ pos 1606 ∷ pos 0 ∷ []

-- the same for i below 64, by symmetry of the cosine
abbrev pub cosine : ℕ → ℤ
cosine i =
    if nat_le i 16 then get_or first_cosines i (pos 0)
    else if nat_le i 32 then neg_ℤ (get_or first_cosines (32 - i) (pos 0))
    else if nat_le i 48 then neg_ℤ (get_or first_cosines (i - 32) (pos 0))
    else get_or first_cosines (64 - i) (pos 0)

-- the direction of i sixty-fourths of a turn; the sine is the cosine a quarter turn earlier
unfoldable pub turned_by : ℕ → Complex
turned_by i = record { re = cosine (i % 64); im = cosine ((i + 48) % 64) }
