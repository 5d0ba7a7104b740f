-- The costs of an axis, from the sign and the magnitude of its value.
use Rattle.std.specs.Prelude.{◌≡◌, ℕ, zero, suc, ◌+◌, ◌-◌, ◌/◌, ◌%◌, ◌^◌, ◌≤◌, min, nat_lt, Bool, if◌then◌else◌, List}
use Rattle.std.specs.Prelude.{slice_index, slice_index_or, ℤ, pos, neg_ℤ}
use Rattle.std.specs.Int.{abs_diff}

-- the cost of a squared distance
abbrev pub scaled : ℕ → ℕ
scaled square = min 4095 (square / 2 ^ 18)

-- the squared distance to level k on the value's side of 0
abbrev pub near : List ℕ → ℕ → ℕ → ℕ
near levels m k = abs_diff m (slice_index levels k) ^ 2

-- the squared distance to level k on the other side of 0
abbrev pub far : List ℕ → ℕ → ℕ → ℕ
far levels m k = (m + slice_index levels k) ^ 2

-- costs are at most 4095
abbrev pub IsSmallPair : ℕ × ℕ → Type 0
IsSmallPair c = (c.0 ≤ 4095) × (c.1 ≤ 4095)

-- pair k of the costs
abbrev pub pair_at : List (ℕ × ℕ) → ℕ → ℕ × ℕ
pair_at cs k = slice_index_or cs k (0, 0)

-- the points on the value's side are nearer, and of those on the other side the innermost is nearest
pub record AreAxisCosts (levels : List ℕ) (positive : Bool) (m : ℕ) (cs : List (ℕ × ℕ)) : Type 0 where
  pub same : (if positive then (pair_at cs 0).0 else (pair_at cs 0).1)
      ≡ scaled (min (min (near levels m 0) (near levels m 1)) (min (near levels m 2) (near levels m 3)))
  pub other : (if positive then (pair_at cs 0).1 else (pair_at cs 0).0) ≡ scaled (far levels m 3)
  pub outer_zero : (pair_at cs 1).0 ≡ scaled (min (near levels m 0) (near levels m 1))
  pub outer_one : (pair_at cs 1).1 ≡ scaled (min (near levels m 2) (near levels m 3))
  pub inner_zero : (pair_at cs 2).0 ≡ scaled (min (near levels m 0) (near levels m 3))
  pub inner_one : (pair_at cs 2).1 ≡ scaled (min (near levels m 1) (near levels m 2))

-- the magnitude of a value of an axis, which lanes have modulo 2^16
abbrev pub lane_magnitude : ℕ → ℕ
lane_magnitude u = min u ((65536 - u) % 65536)

-- whether this value is at least 0
abbrev pub lane_positive : ℕ → Bool
lane_positive u = nat_lt u 32768

-- the value itself
abbrev pub lane_value : ℕ → ℤ
lane_value u = if lane_positive u then pos (lane_magnitude u) else neg_ℤ (pos (lane_magnitude u))

-- the lower distance to two levels on the value's side of 0
abbrev pub near_two : List ℕ → ℕ → ℕ → ℕ → ℕ
near_two levels u j k = min (abs_diff (lane_magnitude u) (slice_index levels j))
    (abs_diff (lane_magnitude u) (slice_index levels k))

-- the lowest distance to the four levels on the value's side of 0
abbrev pub near_four : List ℕ → ℕ → ℕ
near_four levels u = min (near_two levels u 0 1) (near_two levels u 2 3)

-- the distance to the innermost level on the other side of 0
abbrev pub far_one : List ℕ → ℕ → ℕ
far_one levels u = lane_magnitude u + slice_index levels 3

-- the cost of value 0 of bit 0, 1 or 2 of an axis, from distances
abbrev pub lane_zero : List ℕ → ℕ → ℕ → ℕ
lane_zero levels zero u = if lane_positive u then scaled (near_four levels u ^ 2) else scaled (far_one levels u ^ 2)
lane_zero levels (suc zero) u = scaled (near_two levels u 0 1 ^ 2)
lane_zero levels (suc (suc axis)) u = scaled (near_two levels u 0 3 ^ 2)

-- the cost of value 1 of bit 0, 1 or 2 of an axis, from distances
abbrev pub lane_one : List ℕ → ℕ → ℕ → ℕ
lane_one levels zero u = if lane_positive u then scaled (far_one levels u ^ 2) else scaled (near_four levels u ^ 2)
lane_one levels (suc zero) u = scaled (near_two levels u 2 3 ^ 2)
lane_one levels (suc (suc axis)) u = scaled (near_two levels u 1 2 ^ 2)

-- both costs of a bit of an axis
abbrev pub lane_pair : List ℕ → ℕ → ℕ → ℕ × ℕ
lane_pair levels axis u = (lane_zero levels axis u, lane_one levels axis u)
