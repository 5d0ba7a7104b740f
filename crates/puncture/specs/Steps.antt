-- The sent bits of each step (EN 300 744, 4.3.3).
use Rattle.std.specs.Prelude.{◌≡◌, ℕ, ◌+◌, ◌-◌, ◌*◌, ◌/◌, ◌%◌, ◌==◌, nat_le, Bool, true, false, if◌then◌else◌, List, []}
use Rattle.std.specs.Prelude.{◌∷◌, ◌++◌, count_by, position, Option, Some, None, option_map, slice_index_or}
use Rattle.std.specs.List.{list_any}
use Rattle.mode_set.specs.StreamTable.{steps_in_period, sent_in_period}
use Rattle.mode_set.specs.declared.modes.Rate.{Rate}
use Rattle.puncture.specs.SentBits.{Coded, X, Y, sent, bits_from}
use Rattle.puncture.specs.declared.table.Sent.{Sent}
use Rattle.puncture.specs.declared.table.Sent.TheVariants.{Both, OnlyX, OnlyY}

-- whether two coded bits are the same
abbrev pub same_coded : Coded → Coded → Bool
same_coded (X i) (X j) = i == j
same_coded (Y i) (Y j) = i == j
same_coded (X i) (Y j) = false
same_coded (Y i) (X j) = false

-- the step in the period, counted from 1
abbrev pub step_in_period : Coded → ℕ
step_in_period (X j) = j
step_in_period (Y j) = j

-- whether the X or the Y of step t is sent, by the puncturing table
abbrev pub is_sent : Rate → (ℕ → Coded) → ℕ → Bool
is_sent r xy t = list_any (same_coded (xy (t % steps_in_period r + 1))) (sent r)

-- the number of the X or the Y of step t among all sent bits, if it is sent
abbrev pub number_of : Rate → (ℕ → Coded) → ℕ → Option ℕ
number_of r xy t = option_map (λ i. t / steps_in_period r * sent_in_period r + i)
    (position (same_coded (xy (t % steps_in_period r + 1))) (sent r))

-- sent bit n as a coded bit of its period
abbrev pub sent_as : Rate → ℕ → Coded
sent_as r n = slice_index_or (sent r) (n % sent_in_period r) (X 1)

-- whether it is an X or a Y
abbrev pub kind_of : Coded → ℕ → Coded
kind_of (X j) = X
kind_of (Y j) = Y

-- the step of sent bit n
abbrev pub step_of : Rate → ℕ → ℕ
step_of r n = n / sent_in_period r * steps_in_period r + (step_in_period (sent_as r n) - 1)

-- the number of bits sent in the first t steps
abbrev pub sent_before : Rate → ℕ → ℕ
sent_before r t = t / steps_in_period r * sent_in_period r + count_by (λ c. nat_le (step_in_period c)
    (t % steps_in_period r)) (sent r)

-- the sent ones of two coded bits, X before Y
abbrev pub bits_sent : Bool → Bool → Bool → Bool → List Bool
bits_sent x_goes y_goes x y = (if x_goes then x ∷ [] else []) ++ (if y_goes then y ∷ [] else [])

-- the bits sent in step t, given its coded bits
abbrev pub bits_of_step : Rate → ℕ → Bool → Bool → List Bool
bits_of_step r t x y = bits_sent (is_sent r X t) (is_sent r Y t) x y

-- the bits sent from step t on, given the X and Y of each step
unfoldable pub bits_of_steps : Rate → ℕ → List Bool → List Bool → List Bool
bits_of_steps r t [] ys = []
bits_of_steps r t (x ∷ xs) [] = []
bits_of_steps r t (x ∷ xs) (y ∷ ys) = bits_of_step r t x y ++ bits_of_steps r (t + 1) xs ys

-- the number of bits sent in step t
abbrev pub needed : Rate → ℕ → ℕ
needed r t = (if is_sent r X t then 1 else 0) + (if is_sent r Y t then 1 else 0)

-- the costs of the X of step t, from the costs of its sent bits; a punctured bit costs 0
abbrev pub costs_of_x : Rate → ℕ → ℕ × ℕ → ℕ × ℕ → ℕ × ℕ
costs_of_x r t first second = if is_sent r X t then first else (0, 0)

-- the costs of the Y of step t, from the costs of its sent bits; a punctured bit costs 0
abbrev pub costs_of_y : Rate → ℕ → ℕ × ℕ → ℕ × ℕ → ℕ × ℕ
costs_of_y r t first second = if is_sent r Y t then (if is_sent r X t then second else first) else (0, 0)

-- the costs of a coded bit, by its number among the sent bits
abbrev pub costs_at : (ℕ → ℕ × ℕ) → Option ℕ → ℕ × ℕ
costs_at costs None = (0, 0)
costs_at costs (Some n) = costs n

-- whether the X of a step is sent
abbrev pub has_x : Sent → Bool
has_x Both = true
has_x OnlyX = true
has_x OnlyY = false

-- whether the Y of a step is sent
abbrev pub has_y : Sent → Bool
has_y Both = true
has_y OnlyX = false
has_y OnlyY = true

-- a position in the stream of steps, as a puncturer keeps it: the steps done in the period
pub record Place : Type 0 where
  pub rate : Rate
  pub step : ℕ

-- the position after t steps of a stream of that rate
pub record IsAtStep (p : Place) (r : Rate) (t : ℕ) : Type 0 where
  pub rate : p.rate ≡ r
  pub step : p.step ≡ t % steps_in_period r

-- an encoder with its puncturer: the rate, the steps done in the period, and the register, oldest bit first
pub record Coder : Type 0 where
  pub rate : Rate
  pub step : ℕ
  pub register : List Bool

-- the coder before step t of a path
pub record IsAtPath (c : Coder) (r : Rate) (path : ℕ → Bool) (t : ℕ) : Type 0 where
  pub rate : c.rate ≡ r
  pub step : c.step ≡ t % steps_in_period r
  pub register : c.register ≡ bits_from path t 6
