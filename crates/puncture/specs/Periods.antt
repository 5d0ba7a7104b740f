-- The contents of the tables over the places of a puncturing period.
use Rattle.std.specs.Prelude.{◌≡◌, ℕ, zero, suc, ◌+◌, ◌*◌, ◌/◌, ◌%◌, ◌<◌, ◌≤◌, List, slice_index_or}
use Rattle.spec_words.specs.Bits.{spelled}
use Rattle.mode_set.specs.StreamTable.{steps_in_period}
use Rattle.mode_set.specs.declared.modes.Rate.{Rate}
use Rattle.puncture.specs.Steps.{needed, bits_of_steps}

-- the number of bits sent in n steps from step t on
unfoldable pub sent_of_steps : Rate → ℕ → ℕ → ℕ
sent_of_steps r t zero = 0
sent_of_steps r t (suc n) = needed r t + sent_of_steps r (t + 1) n

-- the bits sent in eight steps from a place of the period on: for a byte of X with Y all zero, and for a byte of Y with
-- X all zero
pub record AreWords (r : Rate) (place byte : ℕ) (words : ℕ × ℕ) : Type 0 where
  pub x : (t : ℕ) → place ≡ t % steps_in_period r → spelled (sent_of_steps r t 8) words.0
      ≡ bits_of_steps r t (spelled 8 byte) (spelled 8 0)
  pub y : (t : ℕ) → place ≡ t % steps_in_period r → spelled (sent_of_steps r t 8) words.1
      ≡ bits_of_steps r t (spelled 8 0) (spelled 8 byte)

-- the first n table entries: 256 bytes for each place
pub record AreAllWords (r : Rate) (n : ℕ) (words : List (ℕ × ℕ)) : Type 0 where
  pub at : (k : ℕ) → k < n → AreWords r (k / 256) (k % 256) (slice_index_or words k (0, 0))

-- the number of bits sent in eight steps from a place on, and the place after them
pub record IsEnd (r : Rate) (place : ℕ) (end : ℕ × ℕ) : Type 0 where
  pub count : (t : ℕ) → place ≡ t % steps_in_period r → end.0 ≡ sent_of_steps r t 8
  pub few : end.0 ≤ 16
  pub within : end.1 < steps_in_period r
  pub next : (t : ℕ) → place ≡ t % steps_in_period r → end.1 ≡ (t + 8) % steps_in_period r

-- the table has the count and the end of the first n places
pub record AreEnds (r : Rate) (n : ℕ) (ends : List (ℕ × ℕ)) : Type 0 where
  pub at : (p : ℕ) → p < n → IsEnd r p (slice_index_or ends p (0, 0))

-- the tables of the sent bits and of the ends, for all places of a period
pub record IsPeriodTable (r : Rate) (words ends : List (ℕ × ℕ)) : Type 0 where
  pub all_words : AreAllWords r (256 * steps_in_period r) words
  pub all_ends : AreEnds r (steps_in_period r) ends
