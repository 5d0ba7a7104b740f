-- The pairs of two or four steps of a run of words, written at once.
use Rattle.std.specs.Prelude.{◌≡◌, ◌≢◌, ℕ, ◌+◌, ◌*◌, ◌/◌, ◌%◌, ◌<◌, ◌≤◌, List, [], ◌∷◌, length}
use Rattle.std.specs.Prelude.{slice_index_or}
use Rattle.code_paths.specs.declared.costs.CostPair.{CostPair}
use Rattle.inner_chain.specs.CostTables.{IsPairAt, most_places, pair_at}

-- two costs in a lane of 32 bits, that of 0 in the lower half
abbrev pub lane_of : ℕ × ℕ → ℕ
lane_of p = p.0 + 65536 * p.1

-- the costs at an entry as a lane
abbrev pub lane_at : List (ℕ × ℕ) → ℕ → ℕ
lane_at costs n = lane_of (pair_at costs n)

-- the costs at four entries in a row
abbrev pub four_lanes : List (ℕ × ℕ) → ℕ → List ℕ
four_lanes costs n = lane_at costs n ∷ lane_at costs (n + 1) ∷ lane_at costs (n + 2) ∷ lane_at costs (n + 3) ∷ []

-- the costs of a word at two steps: those at the entries x and y, and at the entries z and w
abbrev pub word_lanes : List (ℕ × ℕ) → ℕ → ℕ → ℕ → ℕ → List ℕ
word_lanes costs x y z w = lane_at costs x ∷ lane_at costs y ∷ lane_at costs z ∷ lane_at costs w ∷ []

-- the two costs of a lane
abbrev pub costs_in : ℕ → ℕ × ℕ
costs_in lane = (lane % 65536, lane / 65536)

-- the X and the Y of a cost pair are the costs of two lanes
pub record IsInLanes (x y : ℕ) (c : CostPair) : Type 0 where
  pub x_is : (c.x0, c.x1) ≡ costs_in x
  pub y_is : (c.y0, c.y1) ≡ costs_in y

-- the pairs of two steps of the first n words of a run are written: the first word has the entries `here` at the one
-- step and `next` at the following one, and its pairs stand from number `first` on, those of each word `steps` after
-- those of the word before
pub record WritesSteps (n : ℕ) (costs : List (ℕ × ℕ)) (here next : ℕ × ℕ) (steps first : ℕ) (old new : List CostPair)
    : Type 0 where
  pub long : length new ≡ length old
  pub of_here : (u : ℕ) (d : CostPair) → u < n
      → IsPairAt costs (here.0 + u) (here.1 + u) (slice_index_or new (first + u * steps) d)
  pub of_next : (u : ℕ) (d : CostPair) → u < n
      → IsPairAt costs (next.0 + u) (next.1 + u) (slice_index_or new (first + u * steps + 1) d)
  pub others : (k : ℕ) (d : CostPair)
      → ((u : ℕ) → u < n → (k ≢ first + u * steps) × (k ≢ first + u * steps + 1))
      → slice_index_or new k d ≡ slice_index_or old k d

-- the entries of the X and the Y at four steps name costs of a block, or the pair after them
abbrev pub AreSmallEntries : List (ℕ × ℕ) → Type 0
AreSmallEntries entries = (s : ℕ) → s < 4
    → ((pair_at entries s).0 ≤ most_places) × ((pair_at entries s).1 ≤ most_places)

-- the costs of a word at four steps: the X and the Y of each step in order, where `at` takes the entries of the first
-- word of a run to those of this one
abbrev pub lanes_of_word : List (ℕ × ℕ) → List (ℕ × ℕ) → (ℕ → ℕ) → List ℕ
lanes_of_word costs entries at = lane_at costs (at (pair_at entries 0).0) ∷ lane_at costs (at (pair_at entries 0).1)
    ∷ lane_at costs (at (pair_at entries 1).0) ∷ lane_at costs (at (pair_at entries 1).1)
    ∷ lane_at costs (at (pair_at entries 2).0) ∷ lane_at costs (at (pair_at entries 2).1)
    ∷ lane_at costs (at (pair_at entries 3).0) ∷ lane_at costs (at (pair_at entries 3).1) ∷ []

-- the pairs of m steps of n words of a run are written, of those from number `word` on: the run's first word has these
-- entries at the steps, and the pairs of each word stand `steps` after those of the word before, from number `first` on
pub record WritesWords (word n m : ℕ) (costs entries : List (ℕ × ℕ)) (steps first : ℕ) (old new : List CostPair)
    : Type 0 where
  pub long : length new ≡ length old
  pub here : (u s : ℕ) (d : CostPair) → u < n → s < m → IsPairAt costs ((pair_at entries s).0 + (word + u))
      ((pair_at entries s).1 + (word + u)) (slice_index_or new (first + s + u * steps) d)
  pub others : (k : ℕ) (d : CostPair) → ((u s : ℕ) → u < n → s < m → k ≢ first + s + u * steps)
      → slice_index_or new k d ≡ slice_index_or old k d
