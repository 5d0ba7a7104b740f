-- Puncturing: the coded bits that are sent, and their order (EN 300 744, 4.3.3).
use Rattle.std.specs.Prelude.{ℕ, ◌+◌, ◌-◌, ◌*◌, ◌/◌, ◌%◌, nat_lt, Bool, false, if◌then◌else◌, List, [], ◌∷◌, map}
use Rattle.std.specs.Prelude.{slice_index_or}
use Rattle.std.specs.List.{range_with_len}
use Rattle.spec_words.specs.Bits.{is_set}
use Rattle.code_paths.specs.Paths.{parity_x, parity_y}
use Rattle.mode_set.specs.StreamTable.{steps_in_period, sent_in_period}
use Rattle.mode_set.specs.declared.modes.Rate.{Rate}
use Rattle.mode_set.specs.declared.modes.Rate.TheVariants.{R1of2, R2of3, R3of4, R5of6, R7of8}

-- a coded bit of a step; steps count from 1 in the period
pub data Coded : Type 0 where
  X : ℕ → Coded
  Y : ℕ → Coded

-- the bits sent in a period, in order
abbrev pub sent : Rate → List Coded
sent R1of2 = X 1 ∷ Y 1 ∷ []
sent R2of3 = X 1 ∷ Y 1 ∷ Y 2 ∷ []
sent R3of4 = X 1 ∷ Y 1 ∷ Y 2 ∷ X 3 ∷ []
sent R5of6 = X 1 ∷ Y 1 ∷ Y 2 ∷ X 3 ∷ Y 4 ∷ X 5 ∷ []
sent R7of8 = X 1 ∷ Y 1 ∷ Y 2 ∷ Y 3 ∷ Y 4 ∷ X 5 ∷ Y 6 ∷ X 7 ∷ []

-- the path of a stream of bytes: six zeros, then their bits, most significant first
abbrev pub path_of : (ℕ → ℕ) → ℕ → Bool
path_of bytes i = if nat_lt i 6 then false else is_set (bytes ((i - 6) / 8)) (7 - (i - 6) % 8)

-- the register before step t, oldest bit first, then the input bit
abbrev pub window : (ℕ → Bool) → ℕ → List Bool
window path t = path t ∷ path (t + 1) ∷ path (t + 2) ∷ path (t + 3) ∷ path (t + 4) ∷ path (t + 5) ∷ path (t + 6) ∷ []

-- a coded bit of the period that starts at step t
abbrev pub coded_bit : (ℕ → Bool) → ℕ → Coded → Bool
coded_bit path t (X j) = parity_x (window path (t + j - 1))
coded_bit path t (Y j) = parity_y (window path (t + j - 1))

-- sent bit n of a path
abbrev pub sent_bit : Rate → (ℕ → Bool) → ℕ → Bool
sent_bit r path n = coded_bit path (steps_in_period r * (n / sent_in_period r))
    (slice_index_or (sent r) (n % sent_in_period r) (X 1))

-- the sent bits of a path with numbers a to b - 1
abbrev pub sent_bits : Rate → (ℕ → Bool) → ℕ → ℕ → List Bool
sent_bits r path a b = map (sent_bit r path) (range_with_len a (b - a))

-- n bits of a path, from bit t on
abbrev pub bits_from : (ℕ → Bool) → ℕ → ℕ → List Bool
bits_from path t n = map path (range_with_len t n)
