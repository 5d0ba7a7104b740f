-- What the tables of the receiving side hold.
use Rattle.std.specs.Prelude.{◌≡◌, ℕ, ◌+◌, ◌*◌, ◌/◌, ◌%◌, ◌<◌, ◌≤◌, Bool, if◌then◌else◌, List, ◌++◌, ◌∷◌, [], drop}
use Rattle.std.specs.Prelude.{length}
use Rattle.std.specs.Prelude.{Option, Some, None, IfSome, slice_index, slice_index_or, ◌⊎◌, ⊤}
use Rattle.mode_set.specs.StreamTable.{payload, label_bits, carriers, need, rate, width}
use Rattle.mode_set.specs.declared.modes.Mode.{Mode}
use Rattle.mode_set.specs.declared.modes.Shape.{Shape}
use Rattle.mode_set.specs.declared.modes.Hierarchy.{Hierarchy}
use Rattle.mode_set.specs.declared.modes.Stream.{Stream}
use Rattle.mode_set.specs.declared.modes.Stream.TheVariants.{Hp, Lp}
use Rattle.mode_set.specs.declared.settings.Settings.{Settings}
use Rattle.mode_set.specs.declared.entry.Entry.{Entry}
use Rattle.mode_set.specs.Entries.{with_entry}
use Rattle.code_paths.specs.declared.costs.CostPair.{CostPair}
use Rattle.puncture.specs.SentBits.{X, Y}
use Rattle.puncture.specs.Steps.{number_of}
use Rattle.bit_interleave.specs.Place.{place_in_label, word_of_bit}
use Rattle.symbol_interleave.specs.Carried.{is_odd, place_of_word}
use Rattle.pilots.specs.Carriers.{payload_carriers}
use Rattle.qam_map.specs.declared.cell.Cell.{Cell}
use Rattle.soft_metric.specs.Squares.{IsSmallPair}
use Rattle.soft_metric.specs.Weights.{full_weight}
use Rattle.qam_map.specs.Cells.{cell_of}
use Rattle.inner_chain.specs.CostPairs.{weight_of, weighted_costs_on, IsPairOf}

-- the words of a block: two blocks of the bit interleavers, which hold whole puncturing periods at every rate
abbrev pub block_words : ℕ
block_words = 252

-- the blocks of a symbol
abbrev pub blocks : Mode → ℕ
blocks m = payload m / block_words

-- the coded bits of a stream in a block
abbrev pub block_coded : Settings → Stream → ℕ
block_coded s σ = block_words * width s.shape s.hierarchy σ

-- the steps of a stream in a block
abbrev pub block_steps : Settings → Stream → ℕ
block_steps s σ = need s σ / blocks s.mode

-- the words of a run: the offsets of all bit interleavers are multiples of it
abbrev pub run_words : ℕ
run_words = 21

-- the most steps of a block: six bits on each payload carrier, at rate 7/8
abbrev pub most_block_steps : ℕ
most_block_steps = 1323

-- the costs of a block at a label bit: those of its words, and four that are not used
abbrev pub row : ℕ
row = 256

-- the costs of a block, at six bits a label
abbrev pub most_places : ℕ
most_places = 1536

-- the number of a coded bit's costs among those of all places of a block's words; for an unsent bit the one after them
abbrev pub entry_at : Settings → Stream → Option ℕ → ℕ
entry_at s σ None = most_places
entry_at s σ (Some d) = place_in_label s.shape s.hierarchy σ d * row + word_of_bit s.shape s.hierarchy σ d

-- an entry names a cost of a block, or the pair after them for an unsent bit
abbrev pub IsSmallEntry : ℕ → Type 0
IsSmallEntry n = n ≤ most_places

-- the word of a coded bit is one of the first block, and its place is one of the label
abbrev pub IsPlaced : Settings → Stream → Option ℕ → Type 0
IsPlaced s σ None = ⊤
IsPlaced s σ (Some d) = (0 < width s.shape s.hierarchy σ) × (word_of_bit s.shape s.hierarchy σ d < block_words)
    × (place_in_label s.shape s.hierarchy σ d < label_bits s.shape)

-- 1 if a coded bit is sent, 0 if it is punctured
abbrev pub count_of : Bool → ℕ
count_of b = if b then 1 else 0

-- the number of a step's Y, if n is the number of its first sent bit
abbrev pub second : Bool → ℕ → ℕ
second x_goes n = if x_goes then n + 1 else n

-- the entries of the X and the Y of the first n steps
pub record AreCostEntries (s : Settings) (σ : Stream) (n : ℕ) (entries : List ℕ) : Type 0 where
  pub long : length entries ≡ 2 * n
  pub x : (t : ℕ) → t < n → slice_index entries (2 * t) ≡ entry_at s σ (number_of (rate s σ) X t)
  pub y : (t : ℕ) → t < n → slice_index entries (2 * t + 1) ≡ entry_at s σ (number_of (rate s σ) Y t)
  pub x_placed : (t : ℕ) → t < n → IsPlaced s σ (number_of (rate s σ) X t)
  pub y_placed : (t : ℕ) → t < n → IsPlaced s σ (number_of (rate s σ) Y t)
  pub small : (k : ℕ) → k < length entries → IsSmallEntry (slice_index entries k)

-- an entry that follows an entry of the first word of a run, u words later: it is as much greater, or both are those of
-- an unsent bit
abbrev pub Follows : ℕ → ℕ → ℕ → Type 0
Follows first u entry = (entry ≡ first + u) ⊎ ((first ≡ most_places) × (entry ≡ most_places))

-- of n entries each, the entries from number `at` on follow those from number `first` on, u words later
abbrev pub FollowAll : List ℕ → ℕ → ℕ → ℕ → ℕ → Type 0
FollowAll entries n first u at = (k : ℕ) → k < n
    → Follows (slice_index entries (first + k)) u (slice_index entries (at + k))

-- each word has n steps, and in each run of a block the entries of a word follow those of the first one
pub record AreInRuns (n : ℕ) (entries : List ℕ) : Type 0 where
  pub long : length entries ≡ 2 * (block_words * n)
  pub at : (r u : ℕ) → r < 12 → u < run_words
      → FollowAll entries (2 * n) (2 * (run_words * r * n)) u (2 * ((run_words * r + u) * n))

-- the carrier of a word in symbol l
abbrev pub carrier_of_word : Mode → ℕ → ℕ → ℕ
carrier_of_word m l w = slice_index (payload_carriers m l) (place_of_word m (is_odd l) w)

-- the carriers of the words of the symbols 0 to 3, one symbol after another: pilots and parity repeat after four
-- symbols
pub record AreCarriers (m : Mode) (n : ℕ) (list : List ℕ) : Type 0 where
  pub long : length list ≡ n
  pub at : (k : ℕ) → k < n → slice_index list k ≡ carrier_of_word m (k / payload m) (k % payload m)
  pub within : (k : ℕ) → k < n → slice_index list k < carriers m

-- a list is continued by the entries of an X and a Y with these numbers
pub record AppendsTwo (s : Settings) (σ : Stream) (x y : Option ℕ) (old new : List ℕ) : Type 0 where
  pub is : new ≡ old ++ entry_at s σ x ∷ entry_at s σ y ∷ []
  pub x_small : IsSmallEntry (entry_at s σ x)
  pub y_small : IsSmallEntry (entry_at s σ y)
  pub x_placed : IsPlaced s σ x
  pub y_placed : IsPlaced s σ y

-- pair n of a list of cost pairs
abbrev pub pair_at : List (ℕ × ℕ) → ℕ → ℕ × ℕ
pair_at costs n = slice_index_or costs n (0, 0)

-- the weighted costs of all places of the words of block b of symbol l: those of place 0 first
pub record AreCosts (s : Settings) (cells : List Cell) (weights : List ℕ) (l b : ℕ) (costs : List (ℕ × ℕ)) : Type 0
  where
    pub at : (w e : ℕ) → w < block_words → e < label_bits s.shape → pair_at costs (e * row + w)
        ≡ weighted_costs_on s cells weights l (place_of_word s.mode (is_odd l) (b * block_words + w)) e

-- space for the costs of a block of any labels; the pairs after them are 0, and no cost exceeds 4095
pub record IsRoom (costs : List (ℕ × ℕ)) : Type 0 where
  pub long : length costs ≡ most_places + run_words
  pub last : (k : ℕ) → most_places ≤ k → pair_at costs k ≡ (0, 0)
  pub small : (k : ℕ) → k < length costs → IsSmallPair (pair_at costs k)

-- the weights of all carriers, none above 15
pub record AreWeights (m : Mode) (weights : List ℕ) : Type 0 where
  pub long : length weights ≡ carriers m
  pub small : (k : ℕ) → k < carriers m → slice_index weights k ≤ full_weight

-- all weights are full
abbrev pub AreFull : List ℕ → Type 0
AreFull weights = (k : ℕ) → k < length weights → slice_index weights k ≡ full_weight

-- the cells of the words of block b of symbol l
pub record AreWordCells (m : Mode) (cells : List Cell) (l b : ℕ) (list : List Cell) : Type 0 where
  pub long : length list ≡ row
  pub at : (q : ℕ) (d : Cell) → q < block_words → slice_index_or list q d
      ≡ cell_of cells (carrier_of_word m l (b * block_words + q))

-- the room for the weights of the words of a block, none above 15
pub record IsWeightRoom (list : List ℕ) : Type 0 where
  pub long : length list ≡ row
  pub small : (q : ℕ) → q < row → slice_index list q ≤ full_weight

-- the weights of the words of block b of symbol l
pub record AreWordWeights (m : Mode) (weights : List ℕ) (l b : ℕ) (list : List ℕ) : Type 0 where
  pub room : IsWeightRoom list
  pub at : (q : ℕ) → q < block_words → slice_index list q ≡ weight_of weights (carrier_of_word m l
      (b * block_words + q))

-- the X and the Y of a cost pair are the costs at the two entries of step t
pub record IsRead (costs : List (ℕ × ℕ)) (entries : List ℕ) (t : ℕ) (c : CostPair) : Type 0 where
  pub x : (c.x0, c.x1) ≡ pair_at costs (slice_index entries (2 * t))
  pub y : (c.y0, c.y1) ≡ pair_at costs (slice_index entries (2 * t + 1))

-- the X and the Y of a cost pair are the costs at two entries
pub record IsPairAt (costs : List (ℕ × ℕ)) (x y : ℕ) (c : CostPair) : Type 0 where
  pub x_is : (c.x0, c.x1) ≡ pair_at costs x
  pub y_is : (c.y0, c.y1) ≡ pair_at costs y

-- the cost pairs of the first n steps of symbol l are appended to a list
pub record AppendsFirst (s : Settings) (cells : List Cell) (weights : List ℕ) (l : ℕ) (σ : Stream) (n : ℕ)
    (old new : List CostPair) : Type 0 where
  pub pairs : List CostPair
  pub long : length pairs ≡ n
  pub at : (t : ℕ) (d : CostPair) → t < n → IsPairOf s cells weights l σ t (slice_index_or pairs t d)
  pub is : new ≡ old ++ pairs

-- the cost pairs of the first n steps of symbol l were written over the first ones of a list
pub record WritesPairs (s : Settings) (cells : List Cell) (weights : List ℕ) (l : ℕ) (σ : Stream) (n : ℕ)
    (old new : List CostPair) : Type 0 where
  pub long : length new ≡ length old
  pub at : (t : ℕ) (d : CostPair) → t < n → IsPairOf s cells weights l σ t (slice_index_or new t d)
  pub rest : (k : ℕ) → n ≤ k → drop k new ≡ drop k old

-- a table of the entries of all steps of a stream in a block, in room for the most steps
pub record IsCostTable (s : Settings) (σ : Stream) (entries : List ℕ) (room : ℕ) : Type 0 where
  pub are : AreCostEntries s σ (block_steps s σ) entries
  pub spare : 2 * most_block_steps ≤ room

-- the metric of these parameters, and the tables of both streams; those with a number of steps a word are in runs
pub record AreCostTables (s : Settings) (metric : Shape × Hierarchy) (hp lp : List ℕ) (hp_room lp_room : ℕ)
    (hp_steps lp_steps : Option ℕ) : Type 0 where
  pub metric_is : metric ≡ (s.shape, s.hierarchy)
  pub of_hp : IsCostTable s Hp hp hp_room
  pub of_lp : IsCostTable s Lp lp lp_room
  pub hp_runs : IfSome hp_steps (λ n. AreInRuns n hp)
  pub lp_runs : IfSome lp_steps (λ n. AreInRuns n lp)

-- what is seen of the tables: the settings of the transmission, and the parameters of the last symbol
pub record TablesState : Type 0 where
  pub settings : Settings
  pub latest : Entry

-- the settings with those parameters
abbrev pub settings_of : TablesState → Settings
settings_of t = with_entry t.settings t.latest

-- what is seen of the costs of a block
pub record CostsState : Type 0 where
  pub mode : Mode
  pub full : Bool
  pub costs : List (ℕ × ℕ)

-- what they are found from: the carriers of the words, and space
pub record IsCostRoom (m : Mode) (carrier_table : List ℕ) (cells : List Cell) (weights : List ℕ) (costs : List (ℕ × ℕ))
    : Type 0 where
  pub are_carriers : AreCarriers m (4 * payload m) carrier_table
  pub cells_long : length cells ≡ row
  pub weight_room : IsWeightRoom weights
  pub room : IsRoom costs

-- what the receiving side of a mode keeps
pub record IsRx (m : Mode) (tables : TablesState) (costs : CostsState) : Type 0 where
  pub table_mode : tables.settings.mode ≡ m
  pub cost_mode : costs.mode ≡ m
